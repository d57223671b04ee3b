-- HOW MANY STRINGS ARE ACCEPTED (request E14), for the calls. With a valid key, header and stretch of t bytes fixed, and a length n from t
-- to 65,536: exactly 256^(n - t) strings of n bytes are opened with answer 0. At t = 0 sealing rearranges the strings of n bytes among
-- themselves. Nothing is said of how hard the accepted ones are to find, and nothing across headers.
use mathlib.Core.List.{List, map, Memᴰ, Permᴰ}
use mathlib.Core.Path.{◌≡◌, refl}
use Prim.Native.Nat.{ℕ, ◌-◌, ◌^◌, ◌≤◌}
use native.Mathlib.Omega.{arith}
use lib.ListN.{length}
use Rattle.paper.specs.Strings.{Bytes, Digits}
use Rattle.paper.specs.Document01.{longest_sealed}
use Rattle.laws.proofs.Counting.{NoRepeats, all_strings}
use Rattle.laws.proofs.Demand3 as laws
use Rattle.laws.proofs.Demand3.{Fixed}
use Rattle.laws.proofs.Accepted as accepted
use Rattle.answer.specs.Outcomes.{AnswerAt}
use Rattle.audit.proofs.Demands.{Opened, Within, Seals, seals_defined, seals_called, opens_iff_sealed}

module _ (key header : Bytes) (strings : List Bytes) (t : ℕ) (fixed : Fixed key header strings t) (n : ℕ) (least : t ≤ n) (most : n ≤ longest_sealed) where
  -- l holds exactly the strings of n bytes that calls open, none of them twice, and there are 256^(n - t): on an entry every opening with
  -- room answers 0, and a string on which one such opening answered 0 is an entry
  pub record Count (l : List Bytes) : Type 0 where
    pub each_bytes : (C : Bytes) → Memᴰ C l → Digits 8 n C
    pub each_opens : (C out : Bytes) (r : AnswerAt) (last : Bytes) → Memᴰ C l → n ≤ length out → Opened key header t C out r last → r.number ≡ 0
    pub all : (C out : Bytes) (r : AnswerAt) (last : Bytes) → Digits 8 n C → n ≤ length out → Opened key header t C out r last → r.number ≡ 0 → Memᴰ C l
    pub once : NoRepeats l
    pub count : length l ≡ 256 ^ (n - t)

  within : (C : Bytes) → Digits 8 n C → Within key header strings t fixed C
  within C p = record { bytes = p.low; limit = omega (arith, p.len) }

  -- exactly 256^(n - t) strings of n bytes are opened
  pub accepted_strings : (l : List Bytes) × Count l
  accepted_strings =
      let l : List Bytes = accepted.sealed_strings key header strings t fixed n least most in
      let c = accepted.accepted_strings key header strings t fixed n least most in (
        l,
        record {
          each_bytes = λ C h. (c.each C h).bytes;
          each_opens = λ C out r last h room call.
              let a = c.each C h in
              let s = laws.opened_seals key header strings t fixed a.opens.0 C a.bytes.low a.opens.1 in
              (opens_iff_sealed key header strings t fixed C out (within C a.bytes) (omega (arith, a.bytes.len)) r last call).1
              (a.opens.0, seals_called key header strings t fixed a.opens.0 C (within C a.bytes) s);
          all = λ C out r last p room call z.
              let s = (opens_iff_sealed key header strings t fixed C out (within C p) (omega (arith, p.len)) r last call).0 z in
              c.all C (record { bytes = p; opens = (s.0, laws.opens_to key header strings t fixed s.0 C (seals_defined key header strings t fixed s.0 C s.1)) });
          once = c.once;
          count = c.count;
        },
      )

  -- ---- At stretch 0

  module _ (zero : t ≡ 0) where
    -- what a call seals a text to
    abbrev pub sealed_of : Bytes → Bytes
    sealed_of M = laws.sealed key header strings t fixed M

    -- a call seals a text of n bytes to a string of n bytes
    pub sealing_keeps : (M : Bytes) → Digits 8 n M → Seals key header strings t fixed M (sealed_of M) × Digits 8 n (sealed_of M)
    sealing_keeps M p =
        let q = accepted.sealing_keeps key header strings t fixed n least most zero M p in
        (seals_called key header strings t fixed M (sealed_of M) (within (sealed_of M) q) (record { text = p.low; to = refl }), q)

    -- no two texts to one string
    pub sealing_one_to_one : (M N : Bytes) → Digits 8 n M → Digits 8 n N → sealed_of M ≡ sealed_of N → M ≡ N
    sealing_one_to_one = accepted.sealing_one_to_one key header strings t fixed n least most zero

    -- every string of n bytes from a text of n bytes
    pub sealing_onto : (C : Bytes) → Digits 8 n C → (M : Bytes) × Digits 8 n M × Seals key header strings t fixed M C
    sealing_onto C p =
        let s = accepted.sealing_onto key header strings t fixed n least most zero C p in
        (s.0, s.1, seals_called key header strings t fixed s.0 C (within C p) (record { text = s.1.low; to = s.2 }))

    -- the list of what all texts of n bytes are sealed to is a rearrangement of the list of all strings of n bytes
    pub sealing_rearranges : Permᴰ (map sealed_of (all_strings n)) (all_strings n)
    sealing_rearranges = accepted.sealing_rearranges key header strings t fixed n least most zero
