-- What the settled number means: another than 0 is the refusal of that number, and 0 says that every test before the check was passed.
use mathlib.Core.Bool.{Bool, true, false, not}
use mathlib.Core.List.{List, [], ◌∷◌}
use mathlib.Core.Option.{some}
use mathlib.Core.Path.{◌≡◌, refl, ap, sym, subst, ◌∙◌}
use Prim.Native.Nat.{ℕ, ◌+◌, ◌≤◌, ◌<◌}
use native.Mathlib.Omega.{arith}
use borrow.Author.Tests.{eq-eqb, ne_eqb, eqb-true, eqb-false, lt-ltb, le-ltb, ltb-false}
use lib.Dec.{eqb, ltb}
use lib.ListN.{length}
use Rattle.std.specs.Prelude.{if◌then◌else◌}
use Rattle.paper.specs.Strings.{Bytes}
use Rattle.paper.specs.Figure6.{key_of, E}
use Rattle.paper.specs.Figure5.{encrypt, decrypt}
use Rattle.paper.specs.Document01.{OutcomeAt, beside, Read, as_strings, bad_entry, reading, strings_of, read_header, refused, done, longest_sealed, longest_stretch, seal_under, sealing, opened, open_under, opening}
use Rattle.laws.proofs.Headers.{reads_as}
use Rattle.std.specs.Prelude.{Ok, Err}
use Rattle.answer.specs.declared.BadEntry.{BadEntry}
use Rattle.header.specs.Places.{read_as}
use Rattle.answer.specs.declared.Refusal.{Refusal}
use Rattle.answer.specs.Outcomes.{number_of, place_of}
use Rattle.answer.proofs.Refusals.{refuses}
use Rattle.settle.specs.Settled.{Settled, refusal, unread, settled_common, first, settled_sealing, settled_opening}

-- ---- Tests in their order

-- what is answered where the test holds, and whether it holds
data Test : Type 0 where
  test : Settled → Bool → Test

-- the first that holds, or 0
abbrev settles : List Test → Settled
settles [] = refusal 0 0
settles (test r b ∷ ts) = if b then r else settles ts

-- the outcome of a refusal
abbrev pub refused_by : Settled → Bytes → OutcomeAt
refused_by r out = beside r.at (refused r.number out)

-- the refusal of the first that holds, or what is done once all are passed
abbrev call : List Test → OutcomeAt → Bytes → OutcomeAt
call [] o out = o
call (test r b ∷ ts) o out = if b then refused_by r out else call ts o out

-- no test holds
abbrev Passes : List Test → Type 0
Passes [] = Unit {0}
Passes (test r b ∷ ts) = (b ≡ false) × Passes ts

-- each refusal has P
abbrev Each : (Settled → Type 0) → List Test → Type 0
Each P [] = Unit {0}
Each P (test r b ∷ ts) = P r × Each P ts

passes : (ts : List Test) → Each (λ r. 1 ≤ r.number) ts → (settles ts).number ≡ 0 → Passes ts
passes [] h e = tt
passes (test r true ∷ ts) h e = absurd (omega (arith, e, h.0))
passes (test r false ∷ ts) h e = (refl, passes ts h.1 e)

-- what 0 and each refusal have, the settled one has
settles_in : (P : Settled → Type 0) (ts : List Test) → P (refusal 0 0) → Each P ts → P (settles ts)
settles_in P [] z h = z
settles_in P (test r true ∷ ts) z h = h.0
settles_in P (test r false ∷ ts) z h = settles_in P ts z h.1

call_refused : (ts : List Test) (o : OutcomeAt) (out : Bytes) (r : Settled) → r ≡ settles ts → (r.number ≡ 0 → ⊥) → call ts o out ≡ refused_by r out
call_refused [] o out r e f = absurd (f (ap (λ (s : Settled). s.number) e))
call_refused (test s true ∷ ts) o out r e f = ap (λ (q : Settled). refused_by q out) (sym e)
call_refused (test s false ∷ ts) o out r e f = call_refused ts o out r e f

call_done : (ts : List Test) (o : OutcomeAt) (out : Bytes) → Passes ts → call ts o out ≡ o
call_done [] o out p = refl
call_done (test r b ∷ ts) o out p = ap (λ (b : Bool). if b then refused_by r out else call ts o out) p.0 ∙ call_done ts o out p.1

-- what each refusal has, and what is done, the call has
call_in : (P : OutcomeAt → Type 0) (ts : List Test) (o : OutcomeAt) (out : Bytes) → Each (λ r. P (refused_by r out)) ts → P o → P (call ts o out)
call_in P [] o out h p = p
call_in P (test r true ∷ ts) o out h p = h.0
call_in P (test r false ∷ ts) o out h p = call_in P ts o out h.1 p

-- ---- The first of two whose number is not 0

first_other : (m n : Settled) → (m.number ≡ 0 → ⊥) → first m n ≡ m
first_other m n f = ap (λ (b : Bool). if b then n else m) (ne_eqb m.number 0 f)

first_none : (m n : Settled) → m.number ≡ 0 → first m n ≡ n
first_none m n e = ap (λ (b : Bool). if b then n else m) (eq-eqb m.number 0 e)

-- one that is m, and not 0
pub first_is : (m later n : Settled) → n ≡ m → (n.number ≡ 0 → ⊥) → n ≡ first m later
first_is m later n e f = e ∙ sym (first_other m later (λ z. f (ap (λ (r : Settled). r.number) e ∙ z)))

first_0 : (m n : Settled) → (first m n).number ≡ 0 → m.number ≡ 0
first_0 m n e = go (eqb m.number 0) refl
  where
    go : (b : Bool) → eqb m.number 0 ≡ b → m.number ≡ 0
    go true p = eqb-true m.number 0 p
    go false p = ap (λ (r : Settled). r.number) (sym (first_other m n (eqb-false m.number 0 p))) ∙ e

-- 3 holds
abbrev unreadable : Read → Bool
unreadable (bad_entry k) = true
unreadable (as_strings strings) = false

-- a call by its header: 3, or what is done with the strings
abbrev headed : (List Bytes → OutcomeAt) → Bytes → Read → OutcomeAt
headed rest out (bad_entry k) = beside k (refused 3 out)
headed rest out (as_strings strings) = rest strings

module _ (key header : Bytes) (stretch : ℕ) where
  -- ---- Tests 1, 2 and 3

  -- they are passed
  pub record Passed : Type 0 where
    pub key_long : length key ≡ 48
    pub short : stretch ≤ longest_stretch
    pub strings : List Bytes
    pub reads : read_header header ≡ some strings

  pub passed : (settled_common key header stretch).number ≡ 0 → Passed
  unfolding settled_common read_header
  passed = go (eqb (length key) 48) (ltb longest_stretch stretch) (reading header) refl refl refl
    where
      go : (a b : Bool) (r : Read) → eqb (length key) 48 ≡ a → ltb longest_stretch stretch ≡ b → reading header ≡ r
          → (if not a then refusal 1 0 else if b then refusal 2 0 else unread r).number ≡ 0 → Passed
      go false b r p q h e = absurd (omega (arith, e))
      go true true r p q h e = absurd (omega (arith, e))
      go true false (bad_entry k) p q h e = absurd (omega (arith, e))
      go true false (as_strings ss) p q h e =
          record { key_long = eqb-true (length key) 48 p; short = ltb-false longest_stretch stretch q; strings = ss; reads = ap strings_of h }

  -- the number by what the tests found
  pub common_then : (a b : Bool) → eqb (length key) 48 ≡ a → ltb longest_stretch stretch ≡ b
      → (if not a then refusal 1 0 else if b then refusal 2 0 else unread (reading header)) ≡ settled_common key header stretch
  unfolding settled_common
  common_then a b p q = λ i. if not (sym p i) then refusal 1 0 else if sym q i then refusal 2 0 else unread (reading header)

  -- they come before some later ones
  abbrev tests : List Test → List Test
  tests later = test (refusal 1 0) (not (eqb (length key) 48)) ∷ test (refusal 2 0) (ltb longest_stretch stretch) ∷ test (unread (reading header)) (unreadable (reading header)) ∷ later

  first_tests : (later : List Test) → first (settled_common key header stretch) (settles later) ≡ settles (tests later)
  unfolding settled_common
  first_tests later = go (eqb (length key) 48) (ltb longest_stretch stretch) (reading header)
    where
      go : (a b : Bool) (r : Read) → first (if not a then refusal 1 0 else if b then refusal 2 0 else unread r) (settles later)
          ≡ (if not a then refusal 1 0 else if b then refusal 2 0 else if unreadable r then unread r else settles later)
      go false b r = refl
      go true true r = refl
      go true false (bad_entry k) = refl
      go true false (as_strings ss) = refl

  then_later : (later : List Test) (r : Settled) → r ≡ settled_common key header stretch → r.number ≡ 0 → settles later ≡ first (settled_common key header stretch) (settles later)
  then_later later r e z = sym (first_none (settled_common key header stretch) (settles later) (ap (λ (q : Settled). q.number) (sym e) ∙ z))

  -- where the number is 0, they and the later ones are passed
  all_passed : (later : List Test) → Each (λ r. 1 ≤ r.number) later → (r : Settled) → r ≡ first (settled_common key header stretch) (settles later) → r.number ≡ 0 → Passed × Passes later
  all_passed later positive r e z =
      let number : (first (settled_common key header stretch) (settles later)).number ≡ 0 = ap (λ (q : Settled). q.number) (sym e) ∙ z in
      let common : (settled_common key header stretch).number ≡ 0 = first_0 (settled_common key header stretch) (settles later) number in
      (passed common, passes later positive (ap (λ (q : Settled). q.number) (sym (first_none (settled_common key header stretch) (settles later) common)) ∙ number))

  -- what 0 and each of the refusals have, the settled one has
  settled_in : (later : List Test) (P : Settled → Type 0) → P (refusal 0 0) → P (refusal 1 0) → P (refusal 2 0) → ((k : ℕ) → P (refusal 3 k)) → Each P later
      → P (first (settled_common key header stretch) (settles later))
  settled_in later P z p1 p2 p3 h = subst P (sym (first_tests later)) (settles_in P (tests later) z (p1, (p2, (by (reading header), h))))
    where
      by : (r : Read) → P (unread r)
      by (bad_entry k) = p3 k
      by (as_strings ss) = z

  -- ---- A call with later tests: r is what all of them settle, and once they are passed the rest is done with the header's strings

  record Door (later : List Test) (r : Settled) (rest : List Bytes → OutcomeAt) (out : Bytes) (result : OutcomeAt) : Type 0 where
    settled : r ≡ first (settled_common key header stretch) (settles later)
    is_call : result ≡ call (tests later) (headed rest out (reading header)) out

  -- it may be written with the later tests under the header
  under_header : (later : List Test) (under : Read → OutcomeAt) (rest : List Bytes → OutcomeAt) (out : Bytes)
      → ((k : ℕ) → under (bad_entry k) ≡ beside k (refused 3 out)) → ((strings : List Bytes) → under (as_strings strings) ≡ call later (rest strings) out)
      → (if not (eqb (length key) 48) then beside 0 (refused 1 out) else if ltb longest_stretch stretch then beside 0 (refused 2 out) else under (reading header))
      ≡ call (tests later) (headed rest out (reading header)) out
  under_header later under rest out p q =
      ap (λ (o : OutcomeAt). if not (eqb (length key) 48) then beside 0 (refused 1 out) else if ltb longest_stretch stretch then beside 0 (refused 2 out) else o) (by (reading header))
    where
      by : (r : Read) → under r ≡ (if unreadable r then refused_by (unread r) out else call later (headed rest out r) out)
      by (bad_entry k) = p k
      by (as_strings strings) = q strings

  module _ {later : List Test} {number : Settled} {rest : List Bytes → OutcomeAt} {out : Bytes} {result : OutcomeAt} (door : Door later number rest out result) where
    door_refused : (r : Settled) → r ≡ number → (r.number ≡ 0 → ⊥) → result ≡ refused_by r out
    door_refused r e f = door.is_call ∙ call_refused (tests later) (headed rest out (reading header)) out r (e ∙ door.settled ∙ first_tests later) f

    door_done : Each (λ r. 1 ≤ r.number) later → (r : Settled) (strings : List Bytes) → r ≡ number → r.number ≡ 0 → read_header header ≡ some strings → result ≡ rest strings
    door_done positive r strings e z h =
        let reads : reading header ≡ as_strings strings = reads_as header strings h in
        let all = all_passed later positive r (e ∙ door.settled) z in
        let tests_passed : Passes (tests later) =
        (ap not (eq-eqb _ _ all.0.key_long), (le-ltb _ _ all.0.short, (ap unreadable reads, all.1))) in
        door.is_call ∙ call_done (tests later) (headed rest out (reading header)) out tests_passed ∙ ap (headed rest out) reads

    -- what the refusals 1, 2 and 3 have, each later one, and what is done, the call has
    door_in : (P : OutcomeAt → Type 0) → P (beside 0 (refused 1 out)) → P (beside 0 (refused 2 out)) → ((k : ℕ) → reading header ≡ bad_entry k → P (beside k (refused 3 out)))
        → Each (λ r. P (refused_by r out)) later → ((strings : List Bytes) → P (rest strings)) → P result
    door_in P p1 p2 p3 h p = subst P (sym door.is_call) (go (not (eqb (length key) 48)) (ltb longest_stretch stretch) (reading header) refl)
      where
        go : (a b : Bool) (r : Read) → reading header ≡ r
            → P (call (test (refusal 1 0) a ∷ test (refusal 2 0) b ∷ test (unread r) (unreadable r) ∷ later) (headed rest out r) out)
        go true b r e = p1
        go false true r e = p2
        go false false (bad_entry k) e = p3 k e
        go false false (as_strings strings) e = call_in P later (rest strings) out h (p strings)

  -- ---- Sealing

  -- tests 4 and 6 by what they found
  abbrev sealing_later : Bool → Bool → List Test
  sealing_later c d = test (refusal 4 0) c ∷ test (refusal 6 0) d ∷ []

  -- for a text and an output of so many bytes
  abbrev sealing_tests : ℕ → ℕ → List Test
  sealing_tests text out = sealing_later (ltb longest_sealed (text + stretch)) (ltb out (text + stretch))

  pub sealing_then : (text room : ℕ) (r : Settled) (c d : Bool) → r ≡ settled_common key header stretch → r.number ≡ 0
      → ltb longest_sealed (text + stretch) ≡ c → ltb room (text + stretch) ≡ d
      → (if c then refusal 4 0 else if d then refusal 6 0 else refusal 0 0) ≡ settled_sealing key header stretch text room
  unfolding settled_sealing
  sealing_then text room r c d e z p q =
      then_later (sealing_later c d) r e z ∙ (λ i. first (settled_common key header stretch) (settles (sealing_later (sym p i) (sym q i))))

  module _ (text out : Bytes) where
    -- what is done with the header's strings
    abbrev sealed_with : List Bytes → OutcomeAt
    sealed_with strings = beside 0 (done (length text + stretch) (encrypt (E (key_of key)) strings stretch text) out)

    sealing_door : Door (sealing_tests (length text) (length out)) (settled_sealing key header stretch (length text) (length out)) sealed_with out
        (sealing key header stretch text out)
    unfolding sealing seal_under settled_sealing
    sealing_door =
        record {
          settled = refl;
          is_call = under_header (sealing_tests (length text) (length out)) (λ r. seal_under r key stretch text out) sealed_with out (λ k. refl) (λ ss. refl);
        }

    pub sealing_refused : (r : Settled) → r ≡ settled_sealing key header stretch (length text) (length out) → (r.number ≡ 0 → ⊥)
        → sealing key header stretch text out ≡ refused_by r out
    sealing_refused = door_refused sealing_door

    pub sealing_done : (r : Settled) (strings : List Bytes) → r ≡ settled_sealing key header stretch (length text) (length out) → r.number ≡ 0
        → read_header header ≡ some strings → sealing key header stretch text out ≡ sealed_with strings
    sealing_done = door_done sealing_door (omega arith, (omega arith, tt))

    -- what the refusals 1, 2, 3, 4 and 6 have, and what is done, sealing has
    pub sealing_in : (P : OutcomeAt → Type 0) → P (beside 0 (refused 1 out)) → P (beside 0 (refused 2 out)) → ((k : ℕ) → reading header ≡ bad_entry k → P (beside k (refused 3 out)))
        → P (beside 0 (refused 4 out)) → P (beside 0 (refused 6 out)) → ((strings : List Bytes) → P (sealed_with strings)) → P (sealing key header stretch text out)
    sealing_in P p1 p2 p3 p4 p6 = door_in sealing_door P p1 p2 p3 (p4, (p6, tt))

  -- 0 says that tests 1 to 3 are passed, and 4 and 6
  pub record Fits (text out : ℕ) : Type 0 where
    pub common : Passed
    pub within : text + stretch ≤ longest_sealed
    pub has_room : text + stretch ≤ out

  pub sealing_fits : (text out : ℕ) (r : Settled) → r ≡ settled_sealing key header stretch text out → r.number ≡ 0 → Fits text out
  unfolding settled_sealing
  sealing_fits text out r e z =
      let all = all_passed (sealing_tests text out) (omega arith, (omega arith, tt)) r e z in
      record {
        common = all.0;
        within = ltb-false longest_sealed (text + stretch) all.1.0;
        has_room = ltb-false out (text + stretch) all.1.1.0;
      }

  -- ---- Opening

  -- tests 4, 5 and 6 by what they found
  abbrev opening_later : Bool → Bool → Bool → List Test
  opening_later c d e = test (refusal 4 0) c ∷ test (refusal 5 0) d ∷ test (refusal 6 0) e ∷ []

  -- for a sealed string and an output of so many bytes
  abbrev opening_tests : ℕ → ℕ → List Test
  opening_tests sealed out = opening_later (ltb longest_sealed sealed) (ltb sealed stretch) (ltb out sealed)

  pub opening_then : (sealed out : ℕ) (found : Settled) (c d f : Bool) → found ≡ settled_common key header stretch → found.number ≡ 0
      → ltb longest_sealed sealed ≡ c → ltb sealed stretch ≡ d → ltb out sealed ≡ f
      → (if c then refusal 4 0 else if d then refusal 5 0 else if f then refusal 6 0 else refusal 0 0) ≡ settled_opening key header stretch sealed out
  unfolding settled_opening
  opening_then sealed out found c d f e z p q r =
      then_later (opening_later c d f) found e z ∙ (λ i. first (settled_common key header stretch) (settles (opening_later (sym p i) (sym q i) (sym r i))))

  module _ (sealed out : Bytes) where
    abbrev opened_with : List Bytes → OutcomeAt
    opened_with strings = beside 0 (opened (decrypt (E (key_of key)) strings stretch sealed) stretch (length sealed) out)

    opening_door : Door (opening_tests (length sealed) (length out)) (settled_opening key header stretch (length sealed) (length out)) opened_with out
        (opening key header stretch sealed out)
    unfolding opening open_under settled_opening
    opening_door =
        record {
          settled = refl;
          is_call = under_header (opening_tests (length sealed) (length out)) (λ r. open_under r key stretch sealed out) opened_with out (λ k. refl) (λ ss. refl);
        }

    pub opening_refused : (r : Settled) → r ≡ settled_opening key header stretch (length sealed) (length out) → (r.number ≡ 0 → ⊥)
        → opening key header stretch sealed out ≡ refused_by r out
    opening_refused = door_refused opening_door

    pub opening_opened : (r : Settled) (strings : List Bytes) → r ≡ settled_opening key header stretch (length sealed) (length out) → r.number ≡ 0
        → read_header header ≡ some strings → opening key header stretch sealed out ≡ opened_with strings
    opening_opened = door_done opening_door (omega arith, (omega arith, (omega arith, tt)))

    -- what the refusals 1 to 6 have, and what is done, opening has
    pub opening_in : (P : OutcomeAt → Type 0) → P (beside 0 (refused 1 out)) → P (beside 0 (refused 2 out)) → ((k : ℕ) → reading header ≡ bad_entry k → P (beside k (refused 3 out)))
        → P (beside 0 (refused 4 out)) → P (beside 0 (refused 5 out)) → P (beside 0 (refused 6 out)) → ((strings : List Bytes) → P (opened_with strings)) → P (opening key header stretch sealed out)
    opening_in P p1 p2 p3 p4 p5 p6 = door_in opening_door P p1 p2 p3 (p4, (p5, (p6, tt)))

  pub record Openable (sealed out : ℕ) : Type 0 where
    pub common : Passed
    pub within : sealed ≤ longest_sealed
    pub least : stretch ≤ sealed
    pub has_room : sealed ≤ out

  pub opening_fits : (sealed out : ℕ) (r : Settled) → r ≡ settled_opening key header stretch sealed out → r.number ≡ 0 → Openable sealed out
  unfolding settled_opening
  opening_fits sealed out r e z =
      let all = all_passed (opening_tests sealed out) (omega arith, (omega arith, (omega arith, tt))) r e z in
      record {
        common = all.0;
        within = ltb-false longest_sealed sealed all.1.0;
        least = ltb-false sealed stretch all.1.1.0;
        has_room = ltb-false out sealed all.1.1.1.0;
      }

  -- 7 is none of the tests' numbers
  pub opening_most : (sealed out : ℕ) → (settled_opening key header stretch sealed out).number ≤ 6
  unfolding settled_opening
  opening_most sealed out =
      settled_in (opening_tests sealed out) (λ r. r.number ≤ 6) (omega arith) (omega arith) (omega arith) (λ k. omega arith) (omega arith, (omega arith, (omega arith, tt)))

-- ---- What each test settles, by the facts that it asks about

-- what the reader's two answers say of test 3
not_read : (r : Read) (bad : BadEntry) → Err bad ≡ read_as r → refusal 3 bad.0 ≡ unread r
not_read (bad_entry j) bad e = cc
not_read (as_strings ss) bad e = cc

is_read : (r : Read) (n : ℕ) → Ok n ≡ read_as r → refusal 0 0 ≡ unread r
is_read (bad_entry j) n e = cc
is_read (as_strings ss) n e = refl

module _ (key header : Bytes) (t : ℕ) where
  pub common_1 : (length key ≡ 48 → ⊥) → refusal 1 0 ≡ settled_common key header t
  common_1 p = common_then key header t false (ltb longest_stretch t) (ne_eqb _ _ p) refl

  pub common_2 : length key ≡ 48 → longest_stretch < t → refusal 2 0 ≡ settled_common key header t
  common_2 p q = common_then key header t true true (eq-eqb _ _ p) (lt-ltb _ _ q)

  pub common_3 : (bad : BadEntry) → length key ≡ 48 → t ≤ longest_stretch → Err bad ≡ read_as (reading header) → refusal 3 bad.0 ≡ settled_common key header t
  common_3 bad p q e = not_read (reading header) bad e ∙ common_then key header t true false (eq-eqb _ _ p) (le-ltb _ _ q)

  pub common_0 : (n : ℕ) → length key ≡ 48 → t ≤ longest_stretch → Ok n ≡ read_as (reading header) → refusal 0 0 ≡ settled_common key header t
  common_0 n p q e = is_read (reading header) n e ∙ common_then key header t true false (eq-eqb _ _ p) (le-ltb _ _ q)

  module _ (text room : ℕ) where
    pub sealing_first : (r : Refusal) → refusal (number_of r) (place_of r) ≡ settled_common key header t → refusal (number_of r) (place_of r) ≡ settled_sealing key header t text room
    unfolding settled_sealing
    sealing_first r e = first_is (settled_common key header t) _ (refusal (number_of r) (place_of r)) e (refuses r)

    module _ (passed_first : refusal 0 0 ≡ settled_common key header t) where
      pub short_stretch : t ≤ longest_stretch
      short_stretch = (passed key header t (ap (λ (r : Settled). r.number) (sym passed_first))).short

      pub sealing_4 : longest_sealed < text + t → refusal 4 0 ≡ settled_sealing key header t text room
      sealing_4 p = sealing_then key header t text room (refusal 0 0) true (ltb room (text + t)) passed_first refl (lt-ltb _ _ p) refl

      pub sealing_6 : text + t ≤ longest_sealed → room < text + t → refusal 6 0 ≡ settled_sealing key header t text room
      sealing_6 p q = sealing_then key header t text room (refusal 0 0) false true passed_first refl (le-ltb _ _ p) (lt-ltb _ _ q)

      pub sealing_0 : text + t ≤ longest_sealed → text + t ≤ room → refusal 0 0 ≡ settled_sealing key header t text room
      sealing_0 p q = sealing_then key header t text room (refusal 0 0) false false passed_first refl (le-ltb _ _ p) (le-ltb _ _ q)

  module _ (sealed room : ℕ) where
    pub opening_first : (r : Refusal) → refusal (number_of r) (place_of r) ≡ settled_common key header t → refusal (number_of r) (place_of r) ≡ settled_opening key header t sealed room
    unfolding settled_opening
    opening_first r e = first_is (settled_common key header t) _ (refusal (number_of r) (place_of r)) e (refuses r)

    module _ (passed_first : refusal 0 0 ≡ settled_common key header t) where
      pub opening_4 : longest_sealed < sealed → refusal 4 0 ≡ settled_opening key header t sealed room
      opening_4 p = opening_then key header t sealed room (refusal 0 0) true (ltb sealed t) (ltb room sealed) passed_first refl (lt-ltb _ _ p) refl refl

      pub opening_5 : sealed ≤ longest_sealed → sealed < t → refusal 5 0 ≡ settled_opening key header t sealed room
      opening_5 p q = opening_then key header t sealed room (refusal 0 0) false true (ltb room sealed) passed_first refl (le-ltb _ _ p) (lt-ltb _ _ q) refl

      pub opening_6 : sealed ≤ longest_sealed → t ≤ sealed → room < sealed → refusal 6 0 ≡ settled_opening key header t sealed room
      opening_6 p q r = opening_then key header t sealed room (refusal 0 0) false false true passed_first refl (le-ltb _ _ p) (le-ltb _ _ q) (lt-ltb _ _ r)

      pub opening_0 : sealed ≤ longest_sealed → t ≤ sealed → sealed ≤ room → refusal 0 0 ≡ settled_opening key header t sealed room
      opening_0 p q r = opening_then key header t sealed room (refusal 0 0) false false false passed_first refl (le-ltb _ _ p) (le-ltb _ _ q) (le-ltb _ _ r)
