-- What a sealed string opens to: a text as many bytes shorter as the stretch, first in the output. So a string of more than 80 bytes opens to
-- no pause, and whether it is opened makes no difference.
use mathlib.Core.Bool.{Bool, true, false}
use mathlib.Core.List.{List, ◌++◌, append_assoc}
use mathlib.Core.Option.{Option, none, some}
use mathlib.Core.Path.{◌≡◌, refl, ap, sym, ◌∙◌}
use Prim.Native.Nat.{ℕ, ◌+◌, ◌≤◌, ◌<◌}
use native.Mathlib.Omega.{arith}
use borrow.Author.Tests.{eqb-true, eqb-false, ne_eqb}
use lib.Dec.{eqb}
use lib.ListN.{length, take, drop, replicate}
use lib.Seq.{take-append_seam}
use Rattle.std.specs.Prelude.{if◌then◌else◌}
use Rattle.paper.specs.Strings.{Bytes, Below}
use Rattle.paper.specs.Figure6.{key_of, E}
use Rattle.paper.specs.Figure5.{decrypt}
use Rattle.paper.specs.Document01.{OutcomeAt, beside, read_header, opened, opening}
use Rattle.paper.specs.Pause.{no_pause, header_mark, read_pause, pause_read, pause_under, pause_with, pausing}
use Rattle.paper.specs.Ledger.{opened_pause}
use Rattle.laws.proofs.Demand3 as laws
use Rattle.laws.proofs.Demand3.{Fixed}
use Rattle.laws.proofs.PauseParts.{Mark, most_bytes}
use Rattle.laws.proofs.LedgerSums.{IfMark, header_mark_lem}
use Rattle.settle.specs.Settled.{Settled, settled_opening}
use Rattle.settle.proofs.Settles.{opening_fits, opening_refused, opening_opened}
use Rattle.std.specs.Prelude.{None, Some}
use Rattle.std.specs.Prelude as std
use Rattle.ledger.specs.Pauses.{taken_as}

-- ---- A string that opens

pub record Text (t : ℕ) (C : Bytes) (o : OutcomeAt) : Type 0 where
  pub text : Bytes
  pub size : o.size ≡ length text
  pub front : take o.size o.output ≡ text
  pub long : length text + t ≡ length C
  pub short : t ≤ 64

module _ (key header : Bytes) (t : ℕ) (C out : Bytes) (key_low : Below 256 key) (header_low : Below 256 header) (low : Below 256 C) where
  abbrev o : OutcomeAt
  o = opening key header t C out

  pub opened_text : o.number ≡ 0 → Text t C o
  unfolding opened
  opened_text z = settled (settled_opening key header t (length C) (length out)) refl (eqb (settled_opening key header t (length C) (length out)).number 0) refl
    where
      found : (strings : List Bytes) → Fixed key header strings t → (x : Option Bytes) → decrypt (E (key_of key)) strings t C ≡ x → o ≡ beside 0 (opened x t (length C) out) → Text t C o
      found strings fixed none d e = absurd (omega (arith, z, ap (λ (a : OutcomeAt). a.number) e))
      found strings fixed (some M) d e =
          let seals = laws.opened_seals key header strings t fixed M C low d in
          let size = ap (λ (a : OutcomeAt). a.size) e in
          let rest = drop (length (M ++ replicate t 0)) out in
          record {
            text = M;
            size = size;
            front = (λ i. take (size i) (e i).output) ∙ ap (take (length M)) (append_assoc M (replicate t 0) rest) ∙ take-append_seam M (replicate t 0 ++ rest);
            long = sym (laws.sealed_length key header strings t fixed M seals.text) ∙ ap length seals.to;
            short = fixed.short;
          }

      settled : (n : Settled) → n ≡ settled_opening key header t (length C) (length out) → (b : Bool) → eqb n.number 0 ≡ b → Text t C o
      settled n s true e =
          let fits = opening_fits key header t (length C) (length out) n s (eqb-true n.number 0 e) in
          let ss : List Bytes = fits.common.strings in
          let fixed : Fixed key header ss t =
          record { key_bytes = record { len = fits.common.key_long; low = key_low }; header_bytes = header_low; reads = fits.common.reads; short = fits.common.short } in
          found ss fixed (decrypt (E (key_of key)) ss t C) refl (opening_opened key header t C out n ss s (eqb-true n.number 0 e) fits.common.reads)
      settled n s false e =
          absurd (eqb-false n.number 0 e (sym (ap (λ (a : OutcomeAt). a.number) (opening_refused key header t C out n s (eqb-false n.number 0 e))) ∙ z))

-- ---- What is longer is no pause

long_text : (header text : Bytes) → 16 < length text → None ≡ taken_as (pausing header text)
unfolding pausing
long_text header text long = with_header (read_header header)
  where
    by_text : (mark : ℕ) → Mark mark → (x : Option ℕ) → read_pause mark text ≡ x → None ≡ taken_as (pause_read x)
    by_text mark m none e = refl
    by_text mark m (some n) e = absurd (omega (arith, most_bytes mark m text n e))

    under : (x : Option ℕ) → IfMark x → None ≡ taken_as (pause_under x text)
    under none m = refl
    under (some mark) m = by_text mark m (read_pause mark text) refl

    with_header : (x : Option (List Bytes)) → None ≡ taken_as (pause_with x text)
    with_header none = refl
    with_header (some ss) = under (header_mark ss) (header_mark_lem ss)

-- ---- The pause of a sealed string

module _ (key header : Bytes) (t : ℕ) (C : Bytes) where
  abbrev opens : OutcomeAt
  opens = opening key header t C (replicate (length C) 0)

  abbrev from_opened : Bool → std.Option ℕ
  from_opened b = taken_as (if b then pausing header (take opens.size opens.output) else no_pause opens.number)

  pub by_opened : (b : Bool) → eqb opens.number 0 ≡ b → taken_as (opened_pause key header t C) ≡ from_opened b
  unfolding opened_pause
  by_opened b e = ap from_opened e

  -- a string that does not open
  pub unopened : (opens.number ≡ 0 → ⊥) → None ≡ taken_as (opened_pause key header t C)
  unopened p = sym (by_opened false (ne_eqb opens.number 0 p) ∙ ap (λ (b : Bool). if b then Some 0 else None) (ne_eqb opens.number 0 p))

  -- where no text under the header is a pause, it makes no difference whether the string opens
  pub either_way : ((text : Bytes) → opens.number ≡ 0 → take opens.size opens.output ≡ text → None ≡ taken_as (pausing header text)) → None ≡ taken_as (opened_pause key header t C)
  either_way p = go (eqb opens.number 0) refl
    where
      go : (b : Bool) → eqb opens.number 0 ≡ b → None ≡ taken_as (opened_pause key header t C)
      go true e = p (take opens.size opens.output) (eqb-true opens.number 0 e) refl ∙ sym (by_opened true e)
      go false e = unopened (eqb-false opens.number 0 e)

  pub too_long_lem : Below 256 key → Below 256 header → Below 256 C → 80 < length C → None ≡ taken_as (opened_pause key header t C)
  too_long_lem a b c long =
      either_way
      (λ text z e.
      let x = opened_text key header t C (replicate (length C) 0) a b c z in
      long_text header text (omega (arith, ap length (sym x.front ∙ e), x.long, x.short)))
