-- Entry i is half-byte i.
use Rattle.std.proofs.Common.{◌≡◌, length, get_or, refl, sym, ◌∙◌, rules, arith}
use Rattle.laws.proofs.Made.{made_tab}
use Rattle.laws.proofs.Tables.{tab_entries}
use Rattle.halves.specs.HalfBytes.{half_bytes}
use Rattle.halves.proofs.ByteHalves.{length_half_bytes}
use Rattle.halves.proofs.unpack.Goals as goal

pub returns : goal.returns
returns c =
    let x = c.args.x in
    let sixteen : length x ≡ 16 = search rules in
    let long : length (half_bytes x) ≡ 32 = omega (arith, length_half_bytes x) in
    made_tab (λ s. s.0.now ≡ x) (λ i. get_or (half_bytes x) i 0) (λ s t i y h k called. (search rules, search rules)) (refl {a = x}) c.from_fn.ensures.items
    ∙ sym (tab_entries 32 (half_bytes x) long)
