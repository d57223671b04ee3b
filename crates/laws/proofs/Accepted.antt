-- HOW MANY STRINGS ARE ACCEPTED (request E14), of the definitions. A key, a header, its strings and a stretch of t bytes are fixed. Of the
-- strings of n bytes, for each n from t to 65,536, exactly 256^(n - t) open. At t = 0 sealing rearranges the strings of n bytes among
-- themselves. Nothing is said of how hard the accepted ones are to find, and nothing across headers.
use mathlib.Core.List.Memᴰ
use mathlib.Core.List.{List, map, Memᴰ, Permᴰ}
use mathlib.Core.Option.{some}
use mathlib.Core.Path.{◌≡◌, refl, ap, sym, subst, ◌∙◌}
use Prim.Native.Nat.{ℕ, ◌+◌, ◌-◌, ◌^◌, ◌≤◌}
use native.Mathlib.Omega.{arith}
use lib.ListN.{length, length-map}
use Rattle.paper.specs.Strings.{Bytes, Digits}
use Rattle.paper.specs.Document01.{longest_sealed}
use Rattle.laws.proofs.Counting.{NoRepeats, map_no_repeats, rearranged, all_strings, all_count, all_no_repeats, all_in, all_out}
use Rattle.laws.proofs.Demand3.{Fixed, sealed, opened, Seals, sealed_length, sealed_bytes, opens_to, opened_seals, only_text, opens_at_stretch_0}

module _ (key header : Bytes) (strings : List Bytes) (t : ℕ) (fixed : Fixed key header strings t) (n : ℕ) (least : t ≤ n) (most : n ≤ longest_sealed) where
  -- what a text seals to
  abbrev pub sealed_of : Bytes → Bytes
  sealed_of M = sealed key header strings t fixed M

  -- C is a string of n bytes that opens
  pub record Accepted (C : Bytes) : Type 0 where
    pub bytes : Digits 8 n C
    pub opens : (M : Bytes) × (opened key header strings t fixed C ≡ some M)

  -- l holds exactly the accepted strings, none of them twice, and there are 256^(n - t)
  pub record Count (l : List Bytes) : Type 0 where
    pub each : (C : Bytes) → Memᴰ C l → Accepted C
    pub all : (C : Bytes) → Accepted C → Memᴰ C l
    pub once : NoRepeats l
    pub count : length l ≡ 256 ^ (n - t)

  -- a text of n - t bytes seals to a string of n bytes
  seals : (M : Bytes) → Digits 8 (n - t) M → Seals key header strings t fixed M (sealed_of M)
  seals M p = record { text = p.low; to = refl }

  seals_bytes : (M : Bytes) → Digits 8 (n - t) M → Digits 8 n (sealed_of M)
  seals_bytes M p =
      record { len = sealed_length key header strings t fixed M p.low ∙ omega (arith, p.len); low = sealed_bytes key header strings t fixed M p.low }

  -- a string that opens is what a text of n - t bytes seals to
  opens_seals : (C : Bytes) → Accepted C → (M : Bytes) × Digits 8 (n - t) M × (sealed_of M ≡ C)
  opens_seals C a =
      let M : Bytes = a.opens.0 in
      let s : Seals key header strings t fixed M C = opened_seals key header strings t fixed M C a.bytes.low a.opens.1 in
      let long : length C ≡ length M + t = ap length (sym s.to) ∙ sealed_length key header strings t fixed M s.text in
      (M, record { len = omega (arith, long, a.bytes.len); low = s.text }, s.to)

  -- all that texts of n - t bytes sealed_of to
  abbrev pub sealed_strings : List Bytes
  sealed_strings = map sealed_of (all_strings (n - t))

  one_to_one : (M N : Bytes) → Digits 8 (n - t) M → Digits 8 (n - t) N → sealed_of M ≡ sealed_of N → M ≡ N
  one_to_one M N p q e = only_text key header strings t fixed M N (sealed_of N) (record { text = p.low; to = e }) (seals N q)

  sealed_once : NoRepeats sealed_strings
  sealed_once = map_no_repeats sealed_of (all_strings (n - t)) (all_no_repeats (n - t)) (λ M N p q e. one_to_one M N (all_out (n - t) M p) (all_out (n - t) N q) e)

  -- exactly 256^(n - t) strings of n bytes open
  pub accepted_strings : Count sealed_strings
  accepted_strings = record {
    each = λ C h.
        let o = Memᴰ.of_map sealed_of (all_strings (n - t)) h in
        let p = all_out (n - t) o.0 o.1 in
        record {
          bytes = subst (Digits 8 n) o.2 (seals_bytes o.0 p);
          opens = (o.0, opens_to key header strings t fixed o.0 C (record { text = p.low; to = o.2 }));
        };
    all = λ C a. let s = opens_seals C a in Memᴰ.cast (sym s.2) (Memᴰ.map sealed_of (all_in (n - t) s.0 s.1));
    once = sealed_once;
    count = length-map (all_strings (n - t)) sealed_of ∙ all_count (n - t);
  }

  -- as long as the stretch it is one string
  pub one_accepted : (l : List Bytes) → Count l → n ≡ t → length l ≡ 1
  one_accepted l c e =
      let none_left : n - t ≡ 0 = omega (arith, e) in
      c.count ∙ ap (λ (k : ℕ). 256 ^ k) none_left

  -- ---- At stretch 0 sealing is a rearrangement of the strings of n bytes

  module _ (zero : t ≡ 0) where
    whole : n - t ≡ n
    whole = omega (arith, zero)

    -- a text of n bytes seals to a string of n bytes
    pub sealing_keeps : (M : Bytes) → Digits 8 n M → Digits 8 n (sealed_of M)
    sealing_keeps M p = seals_bytes M (subst (λ (k : ℕ). Digits 8 k M) (sym whole) p)

    -- no two to the same
    pub sealing_one_to_one : (M N : Bytes) → Digits 8 n M → Digits 8 n N → sealed_of M ≡ sealed_of N → M ≡ N
    sealing_one_to_one M N p q e = one_to_one M N (subst (λ (k : ℕ). Digits 8 k M) (sym whole) p) (subst (λ (k : ℕ). Digits 8 k N) (sym whole) q) e

    -- and each string of n bytes is sealed from one
    pub sealing_onto : (C : Bytes) → Digits 8 n C → (M : Bytes) × Digits 8 n M × (sealed_of M ≡ C)
    sealing_onto C p =
        let o = opens_at_stretch_0 key header strings t fixed zero C (record { bytes = p.low; limit = omega (arith, p.len) }) in
        let s = opens_seals C (record { bytes = p; opens = o }) in
        (s.0, subst (λ (k : ℕ). Digits 8 k s.0) whole s.1, s.2)

    -- the list of all sealed strings is a rearrangement of the list of all strings
    pub sealing_rearranges : Permᴰ (map sealed_of (all_strings n)) (all_strings n)
    sealing_rearranges =
        rearranged (map sealed_of (all_strings n)) (all_strings n) (subst (λ (k : ℕ). NoRepeats (map sealed_of (all_strings k))) whole sealed_once) (all_no_repeats n)
        (λ C h. let o = Memᴰ.of_map sealed_of (all_strings n) h in all_in n C (subst (Digits 8 n) o.2 (sealing_keeps o.0 (all_out n o.0 o.1))))
        (λ C h. let s = sealing_onto C (all_out n C h) in Memᴰ.cast (sym s.2) (Memᴰ.map sealed_of (all_in n s.0 s.1)))
