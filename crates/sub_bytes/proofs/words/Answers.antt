use Rattle.std.proofs.Common.{◌≡◌, ◌+◌, get_or, ap, refl, ◌∙◌, rules}
use Rattle.paper.specs.Fips197.{bit}
use Rattle.laws.proofs.Made.{made_tab}
use Rattle.laws.proofs.WordBits.{word_of}
use Rattle.sub_bytes.specs.Planes.{joined_bit, crossed_bytes}
use Rattle.sub_bytes.proofs.States.{in_words}
use Rattle.sub_bytes.proofs.words.Goals as goal

pub returns : goal.returns
returns c =
    let q = c.args.q in
    ap crossed_bytes
    (made_tab (λ s. s.0.now ≡ q) (λ w. word_of 32 (joined_bit (bit (get_or q w 0)) (bit (get_or q (w + 4) 0)))) (λ s t w y h k called. (search rules, search rules)) (refl {a = q}) c.from_fn.ensures.items)
    ∙ in_words q _ _ _ _ refl refl refl refl
