-- What the settled answer of the builder means: a refusal is the builder's, and a length says that the items fit and the output has room.
use Rattle.std.proofs.Common.{Bool, true, false, ◌≡◌, refl, ap, ap₂, sym, ◌∙◌, ℕ, ◌+◌, ◌≤◌, ◌++◌, length, drop, ltb, ltb-true, ltb-false, if◌then◌else◌, Result, Ok, Err, arith}
use Rattle.paper.specs.Strings.{Bytes}
use Rattle.paper.specs.Document01.{log_header, done, building_log_header}
use Rattle.answer.specs.declared.Refusal.{Refusal}
use Rattle.answer.specs.declared.Refusal.TheVariants.{NoRoom, LongItem}
use Rattle.answer.specs.Outcomes.{outcome}
use Rattle.laws.specs.Placing.{placed}
use Rattle.builder.specs.Building.{too_long, settled_as}
use Rattle.builder.proofs.Items.{builds_8, builds_6}

module _ (nonce host collector locale : Bytes) where
  abbrev long : Bool
  long = too_long nonce host collector locale

  abbrev header : Bytes
  header = log_header nonce host collector locale

  -- what the two tests settle
  abbrev by_tests : Bool → Bool → Result ℕ Refusal
  by_tests a b = if a then Err LongItem else if b then Err NoRoom else Ok (length header)

  pub settles : (bytes : ℕ) (a b : Bool) → long ≡ a → ltb bytes (length header) ≡ b → by_tests a b ≡ settled_as nonce host collector locale bytes
  unfolding settled_as
  settles bytes a b p q = ap₂ by_tests (sym p) (sym q)

  pub refuses : (r : Refusal) (out : Bytes) → Err r ≡ settled_as nonce host collector locale (length out)
      → outcome (Err r) out ≡ building_log_header nonce host collector locale out
  refuses r out e = go long (ltb (length out) (length header)) refl refl
    where
      go : (a b : Bool) → long ≡ a → ltb (length out) (length header) ≡ b → outcome (Err r) out ≡ building_log_header nonce host collector locale out
      go true b p q = ap (λ (s : Result ℕ Refusal). outcome s out) (e ∙ sym (settles (length out) true b p q)) ∙ sym (builds_8 nonce host collector locale out p)
      go false true p q =
          ap (λ (s : Result ℕ Refusal). outcome s out) (e ∙ sym (settles (length out) false true p q))
          ∙ sym (builds_6 nonce host collector locale p out (ltb-true (length out) (length header) q))
      go false false p q = cc (e ∙ sym (settles (length out) false false p q))

  pub accepts : (n bytes : ℕ) → Ok n ≡ settled_as nonce host collector locale bytes → (long ≡ false) × (length header ≤ bytes) × (n ≡ length header)
  accepts n bytes e = go long (ltb bytes (length header)) refl refl
    where
      go : (a b : Bool) → long ≡ a → ltb bytes (length header) ≡ b → (long ≡ false) × (length header ≤ bytes) × (n ≡ length header)
      go true b p q = cc (e ∙ sym (settles bytes true b p q))
      go false true p q = cc (e ∙ sym (settles bytes false true p q))
      go false false p q = (p, ltb-false bytes (length header) q, cc (e ∙ sym (settles bytes false false p q)))

  -- the length of what stands first in the output, and the header there
  pub wrote : (n : ℕ) (out last : Bytes) → n ≡ length header → last ≡ placed 0 header out → outcome (Ok n) last ≡ done (length header) header out
  wrote n out last p q =
      let all : 0 + length header ≡ length header = omega arith in
      let o : last ≡ header ++ drop (length header) out = q ∙ ap (λ (k : ℕ). header ++ drop k out) all in
      λ i. record { number = 0; size = p i; output = o i }
