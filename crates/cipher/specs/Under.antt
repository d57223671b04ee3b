-- Lines 100 to 115 of Figure 5 with Δ worked out once and handed on, and what opening leaves in place of the sealed string.
use Rattle.std.specs.Prelude.{Bool, true, false, [], ◌++◌, ℕ, eqb, length, replicate, if◌then◌else◌}
use Rattle.std.proofs.Math.Option.{Option, none, some}
use Rattle.paper.specs.Strings.{Bytes, same}
use Rattle.paper.specs.Figure6.{BlockFunction, prf_from}
use Rattle.paper.specs.Figure5.{encipher, decipher, unpadded}
use Rattle.wide.specs.declared.Way.{Way}
use Rattle.wide.specs.declared.Way.TheVariants.{Encipher, Decipher}

-- 200 to 202, either way
abbrev pub ciphered : Way → BlockFunction → Bytes → Bytes → Bytes
ciphered Encipher E Δ X = encipher E Δ X
ciphered Decipher E Δ X = decipher E Δ X

module _ (E : BlockFunction) (Δ : Bytes) (t : ℕ) where
  -- 100 to 103
  unfoldable pub encrypt_under : Bytes → Bytes
  encrypt_under M = if eqb (length M) 0 then prf_from E Δ t else encipher E Δ (M ++ replicate t 0)

  -- 112 to 115: a string that is not shorter than the stretch
  unfoldable pub decrypt_under : Bytes → Option Bytes
  decrypt_under C =
      if eqb (length C) t then (if same C (prf_from E Δ t) then some [] else none)
      else unpadded E [] t (decipher E Δ C)

-- whether there is a text
abbrev pub opens : Option Bytes → Bool
opens none = false
opens (some M) = true

-- the n bytes that opening leaves: zeros, or the text and as many zeros as the stretch
abbrev pub leaves : Option Bytes → ℕ → ℕ → Bytes
leaves none t n = replicate n 0
leaves (some M) t n = M ++ replicate t 0
