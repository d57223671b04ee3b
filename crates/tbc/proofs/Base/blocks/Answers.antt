-- Each of the three is crossed back.
use Rattle.std.proofs.Common.{rules, [], ◌∷◌, ◌≡◌}
use Rattle.columns.specs.Columns.{columns_of}
use Rattle.sub_bytes.specs.Planes.{crossed_bytes}
use Rattle.tbc.proofs.Keys.{uncrossed_columns}
use Rattle.tbc.proofs.Base.blocks.Goals as goal

pub returns : goal.returns
returns c =
    let k = c.args.self in
    let I : c.crossed.result ≡ columns_of (crossed_bytes k.i) = uncrossed_columns _ _ (search rules) (λ j. search rules) c.crossed.ensures in
    let J : c.crossed-2.result ≡ columns_of (crossed_bytes k.j) = uncrossed_columns _ _ (search rules) (λ j. search rules) c.crossed-2.ensures in
    let L : c.crossed-3.result ≡ columns_of (crossed_bytes k.l) = uncrossed_columns _ _ (search rules) (λ j. search rules) c.crossed-3.ensures in
    λ n. I n ∷ J n ∷ L n ∷ []
