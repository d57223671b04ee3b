-- AES4 under keys whose first has a block F in it is E in row 0 of the sum with F.
use mathlib.Core.List.{List, ◌∷◌}
use mathlib.Core.Path.{◌≡◌, ap, sym, ◌∙◌}
use Prim.Native.Nat.{ℕ}
use lib.ListN.{drop}
use Rattle.paper.specs.Strings.{Bytes, Block, ◌⊕◌}
use Rattle.paper.specs.Section7.{◌·◌, AES4}
use Rattle.paper.specs.Figure6.{row, k0, E}
use Rattle.laws.proofs.BlockFunction.{E_405}
use Rattle.laws.proofs.Digits.{⊕_block}
use Rattle.laws.proofs.KeyBlocks.{times_block}
use Rattle.laws.proofs.Round.{AES_mask}
use Rattle.laws.proofs.Strings.{⊕_assoc}
use Rattle.columns.specs.Columns.{columns_of}
use Rattle.aes.specs.Steps.{keys_of}
use Rattle.columns.proofs.Conversions.{columns_block}
use Rattle.tbc.specs.declared.Base.{Base}
use Rattle.tbc.specs.Meaning.{base, masked0}
use Rattle.tbc.proofs.Keys.{base_bytes}
use Rattle.tbc.proofs.Masks.{first_masked}

pub adding : (k : Base) (j : ℕ) {F X : Bytes} → Block F → Block X
    → AES4 (keys_of (masked0 k (columns_of (F ⊕ j · (base k).J)))) X ≡ E (base k) (row 0) j (X ⊕ F)
adding k j {F} {X} p q =
    let K = base k in
    let mask-block = ⊕_block p (times_block j (base_bytes k).J) in
    ap (λ (Ks : List Bytes). AES4 Ks X) (first_masked k (columns_of (F ⊕ j · K.J)))
    ∙ ap (λ (M : Bytes). AES4 (M ∷ drop 1 (k0 K)) X) (columns_block mask-block)
    ∙ AES_mask (drop 1 (k0 K)) q mask-block
    ∙ ap (AES4 (k0 K)) (sym (⊕_assoc X F (j · K.J)))
    ∙ sym (E_405 K (X ⊕ F) j)
