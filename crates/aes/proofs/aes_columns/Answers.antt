-- Folded over keys, the state has had a round for each.
use Rattle.std.proofs.Common.{◌≡◌, ℕ, List, map, drop, get_or, [], length, arith, sym, ap, ap₂, ◌∙◌, rules}
use Rattle.std.proofs.lemmas.Fn.{fold_over, fronts, slice_gives}
use Rattle.std.proofs.lemmas.Slice.{between_to_end}
use Rattle.paper.specs.Strings.{Bytes, ◌⊕◌}
use Rattle.paper.specs.Section7.{aesenc, rounds}
use Rattle.laws.proofs.Digits.{⊕_block}
use Rattle.columns.specs.Columns.{columns_of, block_of}
use Rattle.columns.proofs.Conversions.{made, block_columns, block_of_block}
use Rattle.sub_bytes.specs.Planes.{crossed_bytes}
use Rattle.sub_bytes.proofs.States.{crossed_bytes_lem, uncrossed_block}
use Rattle.aes.proofs.Blocks.{word_digits, rounds_none, rounds_push, AES_first}
use Rattle.aes.proofs.aes_columns.Goals as goal

pub returns : goal.returns
returns c =
    let k = c.args.k.now in
    let x = c.args.x in
    let X = crossed_bytes c.crossed-first.result in
    let keys : c.iter.result.rest.now ≡ drop 1 k = c.iter.ensures.rest ∙ between_to_end k 1 (length k) (omega arith) in
    let folded : crossed_bytes c.fold-last.result ≡ rounds (map crossed_bytes c.iter.result.rest.now) X =
    fold_over fronts (λ y. y.now) _ (λ ys s. crossed_bytes s ≡ rounds (map crossed_bytes ys) X) _
    (λ ys s y r f e called.
    let one : crossed_bytes r ≡ aesenc (crossed_bytes s) (crossed_bytes y.now) = search rules in
    (one ∙ ap (λ (B : Bytes). aesenc B (crossed_bytes y.now)) e ∙ sym (rounds_push ys y.now X), search rules))
    c.iter.result c.iter.result.rest.now _ c.fold-last.result (slice_gives c.iter.result) (sym (rounds_none X)) c.fold-last.ensures.ran
    in
    let first : X ≡ block_of x ⊕ block_of (get_or k 0 []) =
    ap crossed_bytes c.crossed-first.ensures ∙ crossed_bytes_lem c.xor.result ∙ made (⊕_block (block_of_block x) (block_of_block (get_or k 0 []))) c.xor.ensures
    in
    sym (block_columns (word_digits (search rules) (λ j. search rules)))
    ∙ ap columns_of
    (ap block_of c.crossed.ensures
    ∙ uncrossed_block c.fold-last.result
    ∙ folded
    ∙ ap₂ (λ (l : List (List ℕ)) (B : Bytes). rounds (map crossed_bytes l) B) keys first
    ∙ sym (AES_first k (block_of x)))
