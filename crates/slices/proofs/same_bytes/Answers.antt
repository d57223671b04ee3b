-- The fold over the pairs is the gathering of what differs, which is 0 just where the strings are equal.
use Rattle.std.proofs.Common.{◌≡◌, ℕ, bit_or, bit_xor, rules, ap, ◌∙◌, eqb}
use Rattle.std.specs.List.{fold, zip}
use Rattle.std.proofs.lemmas.Iterator.{YieldsList-from_slice, YieldsList-from_zip}
use Rattle.std.proofs.lemmas.Iterator.Consumers.{fold_from_yields_List}
use Rattle.slices.proofs.Same.{fold_differences}
use Rattle.slices.proofs.same_bytes.Goals as goal

pub returns : goal.returns
returns c =
    let a = c.args.a.now in
    let b = c.args.b.now in
    let found : c.fold.result ≡ fold (λ (g : ℕ) (p : ℕ × ℕ). bit_or g (bit_xor p.0 p.1)) 0 (zip a b) =
    fold_from_yields_List _ (λ (g : ℕ) (p : ℕ × ℕ). bit_or g (bit_xor p.0 p.1)) 0 c.fold.result c.fold.ensures.ran
    (YieldsList-from_zip (YieldsList-from_slice a cc) (YieldsList-from_slice b cc)) (λ g p r f k. search rules)
    in
    ap (λ (n : ℕ). eqb n 0) found ∙ fold_differences 0 a b c.requires
