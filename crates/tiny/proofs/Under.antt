-- AES4 under the keys of the turns is their E.
use mathlib.Core.List.{List}
use mathlib.Core.Path.{◌≡◌, ap, ◌∙◌}
use Prim.Native.Nat.{ℕ, ◌*◌, ◌≤◌}
use Rattle.paper.specs.Strings.{Bytes, Block, ◌⊕◌}
use Rattle.paper.specs.Section7.{◌·◌, AES4}
use Rattle.paper.specs.Figure6.{row, E}
use Rattle.paper.specs.Figure5.{tiny_index}
use Rattle.laws.proofs.Digits.{⊕_block}
use Rattle.columns.specs.Columns.{columns_of}
use Rattle.aes.specs.Steps.{keys_of}
use Rattle.tbc.specs.declared.Base.{Base}
use Rattle.tbc.specs.Meaning.{base, masked0}
use Rattle.tbc.proofs.Adding.{adding}
use Rattle.tiny.specs.OnBytes.{mark}
use Rattle.tiny.proofs.SummedHalves.{mark_block}

pub under : (b : Base) (n : ℕ) → n ≤ 31 → {Δ : Bytes} → Block Δ → (keys : List (List ℕ))
    → keys ≡ masked0 b (columns_of ((Δ ⊕ mark n) ⊕ tiny_index (8 * n) · (base b).J))
    → (X : Bytes) → Block X → AES4 (keys_of keys) X ≡ E (base b) (row 0) (tiny_index (8 * n)) (X ⊕ (Δ ⊕ mark n))
under b n few d keys e X p =
    ap (λ (l : List (List ℕ)). AES4 (keys_of l) X) e ∙ adding b (tiny_index (8 * n)) (⊕_block d (mark_block n few)) p
