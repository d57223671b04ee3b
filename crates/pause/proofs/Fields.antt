-- A text under a header, by the header's mark and by the text.
use Rattle.std.proofs.Common.{◌≡◌, refl, ap, sym, ◌∙◌, ℕ, Option, Some, None, Result, Ok, Err, arith}
use Rattle.std.specs.Option.{ok_or}
use Rattle.std.proofs.Math.Option as maybe
use Rattle.paper.specs.Strings.{Bytes}
use Rattle.paper.specs.Document01.{Read, as_strings, bad_entry, reading, told, strings_of, read_header}
use Rattle.paper.specs.Pause.{Pause, no_pause, header_mark, read_pause, pause_read, pause_under, pause_with, pausing}
use Rattle.answer.specs.declared.Refusal.{Refusal}
use Rattle.answer.specs.declared.Refusal.TheVariants.{NoPause}
use Rattle.answer.specs.Outcomes.{number_of, number_in, place_of, place_in}
use Rattle.pause.specs.Fields.{field_of}
use Rattle.pause_unit.specs.Answers.{read_as}
use Rattle.pause_mark.specs.Marks.{known_as, mark_as}

-- what a header and a text come to
abbrev pub pause_as : Result ℕ Refusal → Bytes → Pause
pause_as (Err r) text = no_pause (number_of r)
pause_as (Ok m) text = pause_read (read_pause m text)

pub by_mark : (h text : Bytes) (m : Result ℕ Refusal) → m ≡ mark_as (reading h) → pausing h text ≡ pause_as m text
unfolding pausing read_header
by_mark h text m e = go (reading h) ∙ ap (λ (k : Result ℕ Refusal). pause_as k text) (sym e)
  where
    known : (o : maybe.Option ℕ) → pause_under o text ≡ pause_as (known_as o) text
    known maybe.none = refl
    known (maybe.some n) = refl

    go : (r : Read) → pause_with (strings_of r) text ≡ pause_as (mark_as r) text
    go (bad_entry k) = refl
    go (as_strings ss) = known (header_mark ss)

abbrev pub text_as : Option ℕ → Pause
text_as r = field_of (ok_or r NoPause)

pub by_text : (o : maybe.Option ℕ) (r : Option ℕ) → r ≡ read_as o → pause_read o ≡ text_as r
by_text maybe.none r e = ap text_as (sym e)
by_text (maybe.some n) r e = ap text_as (sym e)

-- ---- The header's bad entry

-- a mark that is refused: 3 with the entry, or 15
pub place_refused : (h : Bytes) (r : Refusal) → Err r ≡ mark_as (reading h) → place_of r ≡ (told (reading h)).place
place_refused h r e = go (reading h) e
  where
    known : (o : maybe.Option ℕ) → place_in (known_as o) ≡ 0
    known maybe.none = refl
    known (maybe.some n) = refl

    go : (x : Read) → Err r ≡ mark_as x → place_of r ≡ (told x).place
    go (bad_entry k) e = ap (λ (m : Result ℕ Refusal). place_in m) e
    go (as_strings ss) e = ap (λ (m : Result ℕ Refusal). place_in m) e ∙ known (header_mark ss)

-- under a mark no entry is bad
pub place_read : (h : Bytes) (m : ℕ) (o : Option ℕ) → Ok m ≡ mark_as (reading h) → place_in (ok_or o NoPause) ≡ (told (reading h)).place
place_read h m o e = go (reading h) e
  where
    none_bad : (o : Option ℕ) → place_in (ok_or o NoPause) ≡ 0
    none_bad None = refl
    none_bad (Some n) = refl

    go : (x : Read) → Ok m ≡ mark_as x → place_in (ok_or o NoPause) ≡ (told x).place
    go (bad_entry k) e = absurd (let q = ap (λ (m : Result ℕ Refusal). number_in m) e in omega (arith, q))
    go (as_strings ss) e = none_bad o
