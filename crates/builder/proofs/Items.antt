-- What is written of the log header's items, part by part.
use mathlib.Core.Bool.{Bool, true, false, ◌||◌, true≢false}
use mathlib.Core.List.{[], ◌∷◌, ◌++◌, append-nil}
use mathlib.Core.Path.{◌≡◌, refl, ap, sym, ◌∙◌}
use Prim.Native.Nat.{ℕ, ◌+◌, ◌/◌, ◌%◌, ◌≤◌, ◌<◌}
use native.Mathlib.Omega.{arith}
use borrow.Author.Tests.{ltb-false, lt-ltb, le-ltb}
use lib.Dec.{ltb}
use lib.ListN.{length, set, length-append}
use Rattle.paper.specs.Strings.{Bytes, digits}
use Rattle.paper.specs.Document01.{write_strings, write_header, log_items, log_header, refused, done, building_log_header}
use Rattle.laws.specs.Placing.{placed}
use Rattle.laws.proofs.Headers.{write_append}
use Rattle.laws.proofs.Placed.{placed_then, begun, begun_more}
use Rattle.builder.specs.Building.{too_long}

-- ---- Strings

-- one string: its length in two bytes, and itself
pub write_one : (s : Bytes) → write_strings (s ∷ []) ≡ (length s / 256 % 256 ∷ length s % 256 ∷ []) ++ s
unfolding write_strings digits
write_one s = append-nil (digits 256 2 (length s) ++ s)

pub one_long : (s : Bytes) → length (write_strings (s ∷ [])) ≡ 2 + length s
one_long s = ap length (write_one s) ∙ omega arith

-- the two bytes of its length, and a string after them, are what is written of it
pub string_put : (s out behind last : Bytes) (at : ℕ) → at + 2 + length s ≤ length out → behind ≡ placed at (digits 256 2 (length s)) out
    → last ≡ placed (at + 2) s behind → last ≡ placed at (write_strings (s ∷ [])) out
unfolding digits
string_put s out behind last at p two e =
    e
    ∙ ap (placed (at + 2) s) two
    ∙ placed_then at (digits 256 2 (length s)) s out (omega arith)
    ∙ ap (λ (w : Bytes). placed at w out) (sym (write_one s))

-- ---- The log header

-- the count, and the four strings after each other
pub log_parts : (nonce host collector locale : Bytes) → log_header nonce host collector locale ≡ (4 ∷ []) ++ write_strings (nonce ∷ []) ++ write_strings (host ∷ []) ++ write_strings (collector ∷ []) ++ write_strings (locale ∷ [])
unfolding log_header log_items write_header
log_parts nonce host collector locale =
    let n = nonce ∷ [] in
    let h = host ∷ [] in
    let c = collector ∷ [] in
    ap (λ (r : Bytes). 4 ∷ r)
    (write_append (n ++ h ++ c) (locale ∷ [])
    ∙ ap (λ (r : Bytes). r ++ write_strings (locale ∷ [])) (write_append (n ++ h) c ∙ ap (λ (r : Bytes). r ++ write_strings c) (write_append n h)))

pub log_long : (nonce host collector locale : Bytes) → length (log_header nonce host collector locale) ≡ 1 + length (write_strings (nonce ∷ [])) + length (write_strings (host ∷ [])) + length (write_strings (collector ∷ [])) + length (write_strings (locale ∷ []))
log_long nonce host collector locale =
    let n = write_strings (nonce ∷ []) in
    let h = write_strings (host ∷ []) in
    let c = write_strings (collector ∷ []) in
    let l = write_strings (locale ∷ []) in
    ap length (log_parts nonce host collector locale)
    ∙ omega (arith, length-append (n ++ h ++ c) l, length-append (n ++ h) c, length-append n h)

module _ (nonce host collector locale out : Bytes) (fits : length (log_header nonce host collector locale) ≤ length out) where
  -- the count in front and four strings, each at the place after the one before it, are the header
  pub strings_put : (o1 o2 o3 o4 : Bytes) (p1 p2 p3 : ℕ)
      → o1 ≡ placed 1 (write_strings (nonce ∷ [])) (set out 0 4) → p1 ≡ 1 + length (write_strings (nonce ∷ []))
      → o2 ≡ placed p1 (write_strings (host ∷ [])) o1 → p2 ≡ p1 + length (write_strings (host ∷ []))
      → o3 ≡ placed p2 (write_strings (collector ∷ [])) o2 → p3 ≡ p2 + length (write_strings (collector ∷ []))
      → o4 ≡ placed p3 (write_strings (locale ∷ [])) o3
      → o4 ≡ placed 0 (log_header nonce host collector locale) out
  strings_put o1 o2 o3 o4 p1 p2 p3 a1 b1 a2 b2 a3 b3 a4 =
      let n = write_strings (nonce ∷ []) in
      let h = write_strings (host ∷ []) in
      let c = write_strings (collector ∷ []) in
      let l = write_strings (locale ∷ []) in
      let long = log_long nonce host collector locale in
      let first = begun 4 out (omega (arith, long)) in
      let second = begun_more n o1 p1 first a1 b1 (omega (arith, long)) in
      let third = begun_more h o2 p2 second a2 b2 (omega (arith, long)) in
      let fourth = begun_more c o3 p3 third a3 b3 (omega (arith, long)) in
      let last = begun_more l o4 (p3 + length l) fourth a4 refl (omega (arith, long)) in
      last.there ∙ ap (λ (w : Bytes). placed 0 w out) (sym (log_parts nonce host collector locale))

-- ---- The answers

neither : (a b : Bool) → (a || b) ≡ false → (a ≡ false) × (b ≡ false)
neither true b e = absurd (true≢false e)
neither false b e = (refl, e)

module _ (nonce host collector locale : Bytes) (ok : too_long nonce host collector locale ≡ false) where
  -- no item is too long
  pub items_fit : (length nonce ≤ 1024) × (length host ≤ 1024) × (length collector ≤ 1024) × (length locale ≤ 1024)
  items_fit =
      let n = ltb 1024 (length nonce) in
      let h = ltb 1024 (length host) in
      let c = ltb 1024 (length collector) in
      let three = neither (n || h || c) (ltb 1024 (length locale)) ok in
      let two = neither (n || h) c three.0 in
      let one = neither n h two.0 in
      (ltb-false 1024 (length nonce) one.0, ltb-false 1024 (length host) one.1, ltb-false 1024 (length collector) two.1, ltb-false 1024 (length locale) three.1)

  pub builds_6 : (out : Bytes) → length out < length (log_header nonce host collector locale) → building_log_header nonce host collector locale out ≡ refused 6 out
  unfolding building_log_header
  builds_6 out p = simp (ok, lt-ltb _ _ p)

  pub builds_0 : (out : Bytes) → length (log_header nonce host collector locale) ≤ length out → building_log_header nonce host collector locale out ≡ done (length (log_header nonce host collector locale)) (log_header nonce host collector locale) out
  unfolding building_log_header
  builds_0 out p = simp (ok, le-ltb _ _ p)

pub builds_8 : (nonce host collector locale out : Bytes) → too_long nonce host collector locale ≡ true → building_log_header nonce host collector locale out ≡ refused 8 out
unfolding building_log_header
builds_8 nonce host collector locale out p = simp p
