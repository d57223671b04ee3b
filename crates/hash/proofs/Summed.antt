-- Δ along a walk over a header: what is summed so far, and the strings that are left.
use mathlib.Core.Path.{◌≡◌, refl, ap, sym, ◌∙◌}
use Prim.Native.Nat.{ℕ, suc, ◌+◌, ◌-◌, ◌≤◌, ◌<◌}
use native.Mathlib.Omega.{arith}
use lib.ListN.{length, take, drop}
use Rattle.paper.specs.Strings.{Bytes, ◌⊕◌, number}
use Rattle.paper.specs.Section7.{zeros}
use Rattle.paper.specs.Figure6.{BlockFunction, hash_string, hash_from, AEZ_hash}
use Rattle.paper.specs.Document01.{Read, as_strings, bad_entry, in_front, read_strings, reading, strings_of, read_header}
use Rattle.laws.proofs.Strings.{⊕_assoc, ⊕_zeros}
use Rattle.laws.proofs.Hash.{hash_more, hash_none}
use Rattle.header.specs.Places.{entry_at, count_of}
use Rattle.header.specs.declared.Place.{Place}
use Rattle.answer.specs.declared.BadEntry.{BadEntry}
use Rattle.std.specs.Prelude.{Some, None, Ok, Err}
use Rattle.header.proofs.Walk.{count_reads, entry_reads, end_reads, end_bad}
use Rattle.hash.specs.Delta.{delta_of}

module _ (f : BlockFunction) where
  -- a total, and the sum over the strings from the i-th on, where these read
  abbrev plus : Bytes → ℕ → Read → Bytes
  plus total i (bad_entry k) = zeros
  plus total i (as_strings ss) = total ⊕ hash_from f i ss

  plus_one : (total : Bytes) (i : ℕ) (s : Bytes) (r : Read) → plus total i (in_front s r) ≡ plus (total ⊕ hash_string f i s) (i + 1) r
  plus_one total i s (bad_entry k) = refl
  plus_one total i s (as_strings ss) =
      ap (λ (u : Bytes). total ⊕ u) (hash_more f i s ss) ∙ sym (⊕_assoc total (hash_string f i s) (hash_from f (i + 1) ss))

  delta_plus : (τ : ℕ) (r : Read) → delta_of f τ (strings_of r) ≡ plus (hash_string f 1 (number τ)) 2 r
  unfolding AEZ_hash
  delta_plus τ (bad_entry k) = refl
  delta_plus τ (as_strings ss) = hash_more f 1 (number τ) ss

  -- the same, of the strings that are left in h from a place on; the stretch comes before the header's first
  abbrev pub summed : Bytes → Bytes → ℕ → ℕ → ℕ → Bytes
  summed h total at i left = plus total i (read_strings (i - 1) left (drop at h))

  module _ (h : Bytes) where
    -- a count that does not read
    pub not_counted : (τ : ℕ) (k : BadEntry) → Err k ≡ count_of h → zeros ≡ delta_of f τ (read_header h)
    unfolding read_header
    not_counted τ k e = ap (λ (r : Read). delta_of f τ (strings_of r)) (sym (count_reads h (Err k) e))

    -- before the first entry
    pub begun : (τ n : ℕ) (total : Bytes) → Ok n ≡ count_of h → total ≡ hash_string f 1 (number τ) → delta_of f τ (read_header h) ≡ summed h total 1 2 n
    unfolding read_header
    begun τ n total e b = delta_plus τ (reading h) ∙ (λ i. plus (sym b i) 2 (count_reads h (Ok n) e i))

    module _ (total : Bytes) (at i left : ℕ) where
      -- the string of one entry is added
      pub turn : (p : Place) (more : Bytes) → 1 ≤ i → 0 < left → Some p ≡ entry_at h at
          → more ≡ total ⊕ hash_string f i (take (p.end - p.start) (drop p.start h)) → summed h total at i left ≡ summed h more p.end (i + 1) (left - 1)
      turn p more first q e m =
          let next : suc (i - 1) ≡ i + 1 - 1 = omega arith in
          ap (plus total i) (entry_reads (i - 1) left at h (Some p) q e)
          ∙ plus_one total i (take (p.end - p.start) (drop p.start h)) (read_strings (suc (i - 1)) (left - 1) (drop p.end h))
          ∙ (λ j. plus (sym m j) (i + 1) (read_strings (next j) (left - 1) (drop p.end h)))

      -- an entry that does not read
      pub stop : 0 < left → None ≡ entry_at h at → summed h total at i left ≡ zeros
      stop p e = ap (plus total i) (entry_reads (i - 1) left at h None p e)

      -- nothing after the last entry
      pub good : left ≤ 0 → at ≡ length h → length total ≤ 16 → summed h total at i left ≡ total
      good p e l =
          ap (plus total i) (end_reads (i - 1) left at h p e)
          ∙ ap (λ (u : Bytes). total ⊕ u) (hash_none f i)
          ∙ ⊕_zeros 16 total l

      -- something after it
      pub over : left ≤ 0 → at < length h → summed h total at i left ≡ zeros
      over p q = ap (plus total i) (end_bad (i - 1) left at h p q)
