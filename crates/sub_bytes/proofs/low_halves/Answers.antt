use Rattle.std.proofs.Common.{◌≡◌, ◌%◌, get_or, ap, refl, ◌∙◌, rules}
use Rattle.laws.proofs.Made.{made_tab}
use Rattle.sub_bytes.specs.Planes.{plane_bytes}
use Rattle.sub_bytes.proofs.States.{low_halves}
use Rattle.sub_bytes.proofs.low_halves.Goals as goal

pub returns : goal.returns
returns c =
    let q = c.args.q in
    ap plane_bytes (made_tab (λ s. s.0.now ≡ q) (λ j. get_or q j 0 % 4294967296) (λ s t j y h k called. (search rules, search rules)) (refl {a = q}) c.from_fn.ensures.items)
    ∙ low_halves q
