-- The steps of the round, from the last to the first.
use Rattle.std.proofs.Common.{◌≡◌, get_or, ap, refl, ◌∙◌, rules}
use Rattle.paper.specs.Strings.{Bytes, ◌⊕◌, tab}
use Rattle.paper.specs.Fips197.{ShiftRows, MixColumns}
use Rattle.paper.specs.Section7.{aesenc}
use Rattle.laws.proofs.Made.{made_tab}
use Rattle.sub_bytes.specs.Planes.{crossed_bytes}
use Rattle.aes.specs.Steps.{shifted_word}
use Rattle.aes.proofs.Blocks.{word_digits}
use Rattle.aes.proofs.Lanes.{key_added, summed_words}
use Rattle.aes.proofs.Shifts.{shifted_bytes}
use Rattle.aes.proofs.aesenc.Goals as goal

pub returns : goal.returns
unfolding aesenc
returns c =
    let k = c.args.k.now in
    let t = c.sub_bytes-t.result in
    let m = c.mixed-m.result in
    let turned : c.from_fn.result ≡ tab 4 (λ w. shifted_word (get_or t w 0)) =
    made_tab (λ s. s.0.now ≡ t) (λ w. shifted_word (get_or t w 0)) (λ s u w y known below called. (search rules, search rules)) refl c.from_fn.ensures.items
    in
    ap crossed_bytes (summed_words m k (word_digits (search rules) (λ j. search rules)) (word_digits (search rules) (λ j. search rules)) c.xor.ensures)
    ∙ key_added m k
    ∙ ap (λ (S : Bytes). S ⊕ crossed_bytes k)
    (c.mixed-m.ensures
    ∙ ap MixColumns (ap crossed_bytes turned ∙ shifted_bytes t _ _ _ _ refl refl refl refl ∙ ap ShiftRows c.sub_bytes-t.ensures))
