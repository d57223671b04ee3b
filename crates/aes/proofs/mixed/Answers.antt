-- The sums of columns are those of crossed words, and so the pairs, the triples and the whole are what they are named.
use Rattle.std.proofs.Common.{◌≡◌, ℕ, List, get_or, subst, ap, ap₂, ◌∙◌, ◌<◌, ◌^◌, Fits, rules}
use mir.Syntax.{w32}
use Rattle.sub_bytes.specs.Planes.{crossed_bytes}
use Rattle.aes.specs.Steps.{xor_words, below_words, doubled_words}
use Rattle.aes.proofs.Blocks.{word_digits}
use Rattle.aes.proofs.Lanes.{Words, pairs, triples, mixed_words, mixed_bytes, summed_words}
use Rattle.aes.proofs.mixed.Goals as goal

words_of : {l : List ℕ} (m : List ℕ) → l ≡ m → ((j : ℕ) → Fits w32 (get_or l j 0)) → Words m
words_of m e f j = subst (λ (l : List ℕ). get_or l j 0 < 2 ^ 32) e (f j).fits

pub returns : goal.returns
returns c =
    let t = c.args.t in
    let ft : (j : ℕ) → Fits w32 (get_or t j 0) = λ j. search rules in
    let fp : (j : ℕ) → Fits w32 (get_or c.xor-pairs.result j 0) = λ j. search rules in
    let fr : (j : ℕ) → Fits w32 (get_or c.xor-triples.result j 0) = λ j. search rules in
    let dt = word_digits {l = t} (search rules) ft in
    let p : c.xor-pairs.result ≡ pairs t =
    summed_words t c.below.result dt (word_digits (search rules) (λ j. search rules)) c.xor-pairs.ensures ∙ ap (xor_words t) c.below.ensures
    in
    let r : c.xor-triples.result ≡ triples t =
    summed_words t c.below-2.result dt (word_digits (search rules) (λ j. search rules)) c.xor-triples.ensures
    ∙ ap (xor_words t) (c.below-2.ensures ∙ ap below_words p)
    in
    let all : c.xor.result ≡ mixed_words t =
    summed_words c.doubled.result c.below-3.result (word_digits (search rules) (λ j. search rules)) (word_digits (search rules) (λ j. search rules)) c.xor.ensures
    ∙ ap₂ xor_words (c.doubled.ensures ∙ ap doubled_words p) (c.below-3.ensures ∙ ap below_words r)
    in
    ap crossed_bytes all ∙ mixed_bytes t (λ j. (ft j).fits) (words_of (pairs t) p fp) (words_of (triples t) r fr)
