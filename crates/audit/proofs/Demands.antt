-- THE DEMANDS FOR THE CALLS. What `record::seal` and `record::open` promise, taken together with the laws of the definitions: the numbered
-- opening of what sealing wrote gives the text back, and demand 3 holds for the calls themselves. Strength is not claimed.
use mathlib.Core.Bool.{Bool, true, false}
use mathlib.Core.List.{List, [], ◌++◌, append-nil}
use mathlib.Core.Logic.{◌↔◌}
use mathlib.Core.Option.{Option, none, some}
use mathlib.Core.Path.{◌≡◌, refl, ap, sym, subst, ◌∙◌}
use Prim.Native.Nat.{ℕ, ◌+◌, ◌≤◌, ◌<◌}
use native.Mathlib.Omega.{arith}
use borrow.Author.Tests.{eq-eqb, lt-ltb, le-ltb, eqb-true, eqb-false, ltb-true, ltb-false}
use lib.Dec.{eqb, ltb}
use lib.ListN.{length, take, drop, replicate, length-drop, length-append, length-replicate}
use lib.Seq.{take-append_seam}
use Rattle.paper.specs.Strings.{Bytes, Below}
use Rattle.paper.specs.Figure6.{key_of, E}
use Rattle.paper.specs.Figure5.{encrypt, decrypt}
use Rattle.paper.specs.Document01.{OutcomeAt, beside, refused, done, longest_sealed, sealing, opened, opening}
use Rattle.laws.proofs.Tables.{no_entries}
use Rattle.laws.proofs.Headers.{reads_as}
use Rattle.laws.proofs.Demand3 as laws
use Rattle.laws.proofs.Demand3.{Fixed}
use Rattle.answer.specs.Outcomes.{AnswerAt, answer_at, outcome_of}
use Rattle.settle.specs.Settled.{Settled, refusal, settled_common, settled_sealing, settled_opening}
use Rattle.settle.proofs.Settles.{Fits, sealing_fits, sealing_refused, sealing_done, sealing_then, opening_refused, opening_opened, opening_then, opening_fits, opening_most}
use Rattle.record.proofs.seal.Reads as seal-reads
use Rattle.record.proofs.«open».Reads as open-reads

-- ---- The two contracts

-- a call that was lent these slices answered r and left these bytes in the output
abbrev pub Sealed : (key header : Bytes) (t : ℕ) (text out : Bytes) (r : AnswerAt) (last : Bytes) → Type 0
Sealed key header t text out r last = outcome_of r last ≡ sealing key header t text out

abbrev pub Opened : (key header : Bytes) (t : ℕ) (sealed out : Bytes) (r : AnswerAt) (last : Bytes) → Type 0
Opened key header t sealed out r last = outcome_of r last ≡ opening key header t sealed out

-- they are the contracts that the checker made from the source
pub seal_promises : (κs : _) (a : _) (r : _) (e : _) → seal-reads.Learnt κs a r e
    → Sealed a.0.now a.1.0.now a.1.1.0.0 a.1.1.1.0.now a.1.1.1.1.0.now (answer_at r) e.1.1.1.1.0.now
seal_promises κs a r e p = p

pub open_promises : (κs : _) (a : _) (r : _) (e : _) → open-reads.Learnt κs a r e
    → Opened a.0.now a.1.0.now a.1.1.0.0 a.1.1.1.0.now a.1.1.1.1.0.now (answer_at r) e.1.1.1.1.0.now
open_promises κs a r e p = p

module _ (key header : Bytes) (strings : List Bytes) (t : ℕ) (fixed : Fixed key header strings t) where
  -- ---- What the calls do with a valid key, header and stretch

  passes : settled_common key header t ≡ refusal 0 0
  unfolding settled_common
  passes = simp (eq-eqb _ _ fixed.key_bytes.len, le-ltb _ _ fixed.short, reads_as header strings fixed.reads)

  seals_to : (M out : Bytes) → length M + t ≤ longest_sealed → length M + t ≤ length out
      → sealing key header t M out ≡ beside 0 (done (length M + t) (encrypt (E (key_of key)) strings t M) out)
  seals_to M out p q =
      sealing_done key header t M out (refusal 0 0) strings (sealing_then key header t (length M) (length out) (refusal 0 0) false false (sym passes) refl (le-ltb _ _ p) (le-ltb _ _ q)) refl fixed.reads

  opens_to : (C out : Bytes) → length C ≤ longest_sealed → t ≤ length C → length C ≤ length out
      → opening key header t C out ≡ beside 0 (opened (decrypt (E (key_of key)) strings t C) t (length C) out)
  opens_to C out p q r =
      opening_opened key header t C out (refusal 0 0) strings (opening_then key header t (length C) (length out) (refusal 0 0) false false false (sym passes) refl (le-ltb _ _ p) (le-ltb _ _ q) (le-ltb _ _ r)) refl fixed.reads

  too_short : (C out : Bytes) → length C ≤ longest_sealed → length C < t → opening key header t C out ≡ beside 0 (refused 5 out)
  too_short C out p q =
      opening_refused key header t C out (refusal 5 0) (opening_then key header t (length C) (length out) (refusal 0 0) false true (ltb (length out) (length C)) (sym passes) refl (le-ltb _ _ p) (lt-ltb _ _ q) refl) (λ z. omega (arith, z))

  -- sealing that answers 0 passed its tests
  sealed_fits : (M out : Bytes) → (sealing key header t M out).number ≡ 0 → Fits key header t (length M) (length out)
  sealed_fits M out z = go (settled_sealing key header t (length M) (length out)) refl (eqb (settled_sealing key header t (length M) (length out)).number 0) refl
    where
      go : (n : Settled) → n ≡ settled_sealing key header t (length M) (length out) → (b : Bool) → eqb n.number 0 ≡ b → Fits key header t (length M) (length out)
      go n s true e = sealing_fits key header t (length M) (length out) n s (eqb-true n.number 0 e)
      go n s false e = absurd (eqb-false n.number 0 e (sym (ap (λ (o : OutcomeAt). o.number) (sealing_refused key header t M out n s (eqb-false n.number 0 e))) ∙ z))

  -- M is a text, and a call that seals it into any output with room answers 0 and puts C first
  pub record Seals (M C : Bytes) : Type 0 where
    pub text : Below 256 M
    pub call : (out : Bytes) → length C ≤ length out → sealing key header t M out ≡ beside 0 (done (length C) C out)

  -- C is a string of bytes within the limit
  abbrev pub Within : Bytes → Type 0
  Within C = laws.Within key header strings t fixed C

  -- the calls seal M to C just where the definition does
  pub seals_defined : (M C : Bytes) → Seals M C → laws.Seals key header strings t fixed M C
  seals_defined M C s =
      let out : Bytes = C in
      let fits = sealed_fits M C (ap (λ (o : OutcomeAt). o.number) (s.call C (omega arith))) in
      let both = sym (seals_to M C fits.within fits.has_room) ∙ s.call C (omega arith) in
      let X : Bytes = encrypt (E (key_of key)) strings t M in
      let size : length M + t ≡ length C = ap (λ (o : OutcomeAt). o.size) both in
      let long : length X ≡ length M + t = laws.sealed_length key header strings t fixed M s.text in
      let end : drop (length X) C ≡ [] = no_entries (drop (length X) C) (length-drop (length X) C ∙ omega (arith, size, long)) in
      let last : drop (length C) C ≡ [] = no_entries (drop (length C) C) (length-drop (length C) C ∙ omega arith) in
      let same : X ++ drop (length X) C ≡ C ++ drop (length C) C = ap (λ (o : OutcomeAt). o.output) both in
      record {
        text = s.text;
        to = sym (append-nil X) ∙ ap (λ (l : Bytes). X ++ l) (sym end) ∙ same ∙ ap (λ (l : Bytes). C ++ l) last ∙ append-nil C;
      }

  pub seals_called : (M C : Bytes) → Within C → laws.Seals key header strings t fixed M C → Seals M C
  seals_called M C w s =
      let long : length M + t ≡ length C = sym (laws.sealed_length key header strings t fixed M s.text) ∙ ap length s.to in
      record {
        text = s.text;
        call = λ out room. seals_to M out (omega (arith, long, w.limit)) (omega (arith, long)) ∙ (λ i. beside 0 (done (long i) (s.to i) out));
      }

  -- ---- Demand 3 for the calls

  -- opening's call on a string that the definition opens to M, and on one that it does not open
  opens_with : (C out M : Bytes) → Within C → length C ≤ length out → decrypt (E (key_of key)) strings t C ≡ some M → t ≤ length C
      → opening key header t C out ≡ beside 0 (done (length M) (M ++ replicate t 0) out)
  unfolding opened
  opens_with C out M w room e p = opens_to C out w.limit p room ∙ ap (λ (o : Option Bytes). beside 0 (opened o t (length C) out)) e

  -- a string that some text seals to opens to that text, in any output with room
  pub seals_opens : (M C out : Bytes) → Within C → length C ≤ length out → Seals M C → opening key header t C out ≡ beside 0 (done (length M) (M ++ replicate t 0) out)
  seals_opens M C out w room s =
      let d = seals_defined M C s in
      let long : length C ≡ length M + t = ap length (sym d.to) ∙ laws.sealed_length key header strings t fixed M s.text in
      opens_with C out M w room (laws.opens_to key header strings t fixed M C d) (omega (arith, long))

  -- a string that opens is one that some text seals to
  pub opens_seals : (C out : Bytes) → Within C → length C ≤ length out → (opening key header t C out).number ≡ 0 → (M : Bytes) × Seals M C
  unfolding opened
  opens_seals C out w room z = go (ltb (length C) t) refl
    where
      by : (o : Option Bytes) → decrypt (E (key_of key)) strings t C ≡ o → (opened o t (length C) out).number ≡ 0 → (M : Bytes) × Seals M C
      by none e n = absurd (omega (arith, n))
      by (some M) e n = (M, seals_called M C w (laws.opened_seals key header strings t fixed M C w.bytes e))

      go : (b : Bool) → ltb (length C) t ≡ b → (M : Bytes) × Seals M C
      go true e = absurd (omega (arith, ap (λ (o : OutcomeAt). o.number) (too_short C out w.limit (ltb-true (length C) t e)), z))
      go false e = by (decrypt (E (key_of key)) strings t C) refl (sym (ap (λ (o : OutcomeAt). o.number) (opens_to C out w.limit (ltb-false (length C) t e) room)) ∙ z)

  module _ (C out : Bytes) (w : Within C) (room : length C ≤ length out) (r : AnswerAt) (last : Bytes) (call : Opened key header t C out r last) where
    -- opening answers 0 exactly if some text seals to the string
    pub opens_iff_sealed : (r.number ≡ 0) ↔ ((M : Bytes) × Seals M C)
    opens_iff_sealed = (
      (λ z. opens_seals C out w room (sym (ap (λ (o : OutcomeAt). o.number) call) ∙ z)),
      (λ s. ap (λ (o : OutcomeAt). o.number) (call ∙ seals_opens s.0 C out w room s.1)),
    )

    -- and it returns that text: its length, and in the output the text, as many zeros as the stretch, and all later bytes as they were
    pub opening_returns : (M : Bytes) → Seals M C → (r.length ≡ length M) × (last ≡ M ++ replicate t 0 ++ drop (length C) out)
    opening_returns M s =
        let e = call ∙ seals_opens M C out w room s in
        let d = seals_defined M C s in
        let long : length C ≡ length M + t = ap length (sym d.to) ∙ laws.sealed_length key header strings t fixed M s.text in
        let all : length (M ++ replicate t 0) ≡ length C = length-append M (replicate t 0) ∙ ap (λ (k : ℕ). length M + k) (length-replicate t 0) ∙ sym long in
        (ap (λ (o : OutcomeAt). o.size) e, ap (λ (o : OutcomeAt). o.output) e ∙ ap (λ (k : ℕ). M ++ replicate t 0 ++ drop k out) all)

    -- at stretch 0 it always answers 0
    pub opens_at_stretch_0 : t ≡ 0 → r.number ≡ 0
    opens_at_stretch_0 z =
        let o = laws.opens_at_stretch_0 key header strings t fixed z C w in
        ap (λ (o : OutcomeAt). o.number) (call ∙ opens_with C out o.0 w room o.1 (omega (arith, z)))

  -- that text is the only one
  pub only_text : (M N C : Bytes) → Seals M C → Seals N C → M ≡ N
  only_text M N C s u = laws.only_text key header strings t fixed M N C (seals_defined M C s) (seals_defined N C u)

  -- ---- What a sealing call wrote

  module _ (M out : Bytes) (text : Below 256 M) (r : AnswerAt) (last : Bytes) (call : Sealed key header t M out r last) (done-0 : r.number ≡ 0) where
    -- what stands first in its output: a string that M seals to
    abbrev pub written : Bytes
    written = take r.length last

    written_is : (written ≡ encrypt (E (key_of key)) strings t M) × (length M + t ≤ longest_sealed)
    written_is =
        let fits = sealed_fits M out (sym (ap (λ (o : OutcomeAt). o.number) call) ∙ done-0) in
        let e = call ∙ seals_to M out fits.within fits.has_room in
        let X : Bytes = encrypt (E (key_of key)) strings t M in
        let size : r.length ≡ length X = ap (λ (o : OutcomeAt). o.size) e ∙ sym (laws.sealed_length key header strings t fixed M text) in
        ((λ i. take (size i) (ap (λ (o : OutcomeAt). o.output) e i)) ∙ take-append_seam X (drop (length X) out), fits.within)

    pub written_long : length written ≡ length M + t
    written_long = ap length written_is.0 ∙ laws.sealed_length key header strings t fixed M text

    pub written_within : Within written
    written_within =
        record {
          bytes = subst (Below 256) (sym written_is.0) (laws.sealed_bytes key header strings t fixed M text);
          limit = omega (arith, written_long, written_is.1);
        }

    pub written_sealed : Seals M written
    written_sealed = seals_called M written written_within (record { text = text; to = sym written_is.0 })

    -- the numbered opening of what sealing wrote is answer 0 with the text
    pub open_after_seal : (buffer : Bytes) (s : AnswerAt) (left : Bytes) → length M + t ≤ length buffer → Opened key header t written buffer s left
        → (s.number ≡ 0) × (s.length ≡ length M) × (left ≡ M ++ replicate t 0 ++ drop (length M + t) buffer)
    open_after_seal buffer s left room o =
        let fits : length written ≤ length buffer = omega (arith, written_long) in
        let returned = opening_returns written buffer written_within fits s left o M written_sealed in (
          (opens_iff_sealed written buffer written_within fits s left o).1 (M, written_sealed),
          returned.0,
          returned.1 ∙ ap (λ (k : ℕ). M ++ replicate t 0 ++ drop k buffer) written_long,
        )

  -- two texts that are sealed have equal sealed strings only if they are equal
  pub sealing_one_to_one : (M N out room : Bytes) (p : Below 256 M) (q : Below 256 N) (r s : AnswerAt) (last left : Bytes)
      → Sealed key header t M out r last → Sealed key header t N room s left → r.number ≡ 0 → s.number ≡ 0
      → take r.length last ≡ take s.length left → M ≡ N
  sealing_one_to_one M N out room p q r s last left c d y z e =
      only_text M N (take s.length left) (subst (Seals M) e (written_sealed M out p r last c y)) (written_sealed N room q s left d z)

-- an empty sealed string at stretch 0 opens to the empty text, and the output is as it was
pub empty_string_opens : (key header : Bytes) (strings : List Bytes) (fixed : Fixed key header strings 0) (out : Bytes) (r : AnswerAt) (last : Bytes)
    → Opened key header 0 [] out r last → (r.number ≡ 0) × (r.length ≡ 0) × (last ≡ out)
empty_string_opens key header strings fixed out r last call =
    let within : Within key header strings 0 fixed [] = record { bytes = tt; limit = omega arith } in
    let opens = opens_at_stretch_0 key header strings 0 fixed [] out within (omega arith) r last call refl in
    let text = (opens_iff_sealed key header strings 0 fixed [] out within (omega arith) r last call).0 opens in
    let d = seals_defined key header strings 0 fixed text.0 [] text.1 in
    let none_there : length text.0 ≡ 0 = omega (arith, laws.sealed_length key header strings 0 fixed text.0 text.1.text, ap length d.to) in
    let returned = opening_returns key header strings 0 fixed [] out within (omega arith) r last call text.0 text.1 in
    (opens, returned.0 ∙ none_there, returned.1 ∙ ap (λ (l : Bytes). l ++ replicate 0 0 ++ drop 0 out) (no_entries text.0 none_there))

-- at stretch 0 answer 7 never comes, whatever the key, the header, the string and the output are
pub never_7_at_stretch_0 : (key header C out : Bytes) (r : AnswerAt) (last : Bytes) → Below 256 key → Below 256 header → Below 256 C
    → Opened key header 0 C out r last → (r.number ≡ 7 → ⊥)
never_7_at_stretch_0 key header C out r last k h b call seven = go (settled_opening key header 0 (length C) (length out)) refl (eqb (settled_opening key header 0 (length C) (length out)).number 0) refl
  where
    go : (n : Settled) → n ≡ settled_opening key header 0 (length C) (length out) → (t : Bool) → eqb n.number 0 ≡ t → ⊥
    go n s true e =
        let fits = opening_fits key header 0 (length C) (length out) n s (eqb-true n.number 0 e) in
        let fixed : Fixed key header fits.common.strings 0 =
        record { key_bytes = record { len = fits.common.key_long; low = k }; header_bytes = h; reads = fits.common.reads; short = fits.common.short } in
        omega (arith, opens_at_stretch_0 key header fits.common.strings 0 fixed C out (record { bytes = b; limit = fits.within }) fits.has_room r last call refl, seven)
    go n s false e =
        omega (arith, opening_most key header 0 (length C) (length out), ap (λ (r : Settled). r.number) s, ap (λ (o : OutcomeAt). o.number) (call ∙ opening_refused key header 0 C out n s (eqb-false n.number 0 e)), seven)
