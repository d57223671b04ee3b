-- Each entry is that of the sum.
use Rattle.std.proofs.Common.{rules, ◌≡◌, length, get_or, bit_xor, refl, sym, ◌∙◌, arith}
use Rattle.laws.proofs.Made.{made_tab}
use Rattle.laws.proofs.Strings.{⊕_length, get_or_⊕}
use Rattle.laws.proofs.Tables.{tab_entries}
use Rattle.laws.proofs.WordBits.{tab_same}
use Rattle.paper.specs.Strings.{◌⊕◌}
use Rattle.block.proofs.xor.Goals as goal

pub returns : goal.returns
returns c =
    let a = c.args.a in
    let b = c.args.b in
    let la : length a ≡ 16 = search rules in
    let lb : length b ≡ 16 = search rules in
    made_tab (λ s. (s.0.now ≡ a) × (s.1.now ≡ b)) (λ k. bit_xor (get_or a k 0) (get_or b k 0)) (λ s t i y h k called. (search rules, search rules)) (refl {a = a}, refl {a = b}) c.from_fn.ensures.items
    ∙ sym
    (tab_entries 16 (a ⊕ b) (⊕_length a b (omega arith) ∙ la)
    ∙ tab_same 0 16 (λ k. get_or (a ⊕ b) k 0) (λ k. bit_xor (get_or a k 0) (get_or b k 0)) (λ k h. get_or_⊕ a b k (omega arith) (omega arith)))
