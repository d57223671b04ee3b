-- THE LOG HEADER (request E2). What a call of the builder wrote reads, with exactly its four items, and two calls that wrote equal headers
-- had equal items: nonce, host, collector and locale are bound each by itself.
use mathlib.Core.List.{[], ◌∷◌}
use mathlib.Core.Option.{some}
use mathlib.Core.Path.{◌≡◌, refl, ap, sym, ◌∙◌}
use Prim.Native.Nat.{ℕ, ◌≤◌}
use lib.ListN.{length, take, drop}
use lib.Seq.{take-append_seam}
use Rattle.paper.specs.Strings.{Bytes, Below}
use Rattle.paper.specs.Document01.{Outcome, done, read_header, log_header, building_log_header}
use Rattle.laws.proofs.Headers.{Fits, log_header_reads, same_items}
use Rattle.std.specs.Prelude.{Result, Ok, Err}
use Rattle.answer.specs.Outcomes.{number_in, size_in, outcome}
use Rattle.answer.specs.declared.Refusal.{Refusal}
use Rattle.answer.proofs.Refusals as refusals
use Rattle.builder.specs.Building.{settled_as}
use Rattle.builder.proofs.Items.{items_fit, builds_0}
use Rattle.builder.proofs.Answers.{refuses, accepts}
use Rattle.builder.proofs.log_header.Reads as log-header-contract

-- a call that was lent these items answered r and left these bytes in the output
abbrev pub Built : (nonce host collector locale out : Bytes) (r : Result ℕ Refusal) (last : Bytes) → Type 0
Built nonce host collector locale out r last = outcome r last ≡ building_log_header nonce host collector locale out

-- that is the contract that the checker made from the source
pub log_header_promises : (κs : _) (a : _) (r : _) (e : _) → log-header-contract.Learnt κs a r e
    → Built a.0.now a.1.0.now a.1.1.0.now a.1.1.1.0.now a.1.1.1.1.0.now r e.1.1.1.1.0.now
log_header_promises κs a r e p = p

-- the items are strings of bytes
pub record Items (nonce host collector locale : Bytes) : Type 0 where
  pub nonce_bytes : Below 256 nonce
  pub host_bytes : Below 256 host
  pub collector_bytes : Below 256 collector
  pub locale_bytes : Below 256 locale

-- what stands first in the output of a call that answered r
abbrev pub written : Result ℕ Refusal → Bytes → Bytes
written r last = take (size_in r) last

module _ (nonce host collector locale out : Bytes) (r : Result ℕ Refusal) (last : Bytes) (call : Built nonce host collector locale out r last) (done-0 : number_in r ≡ 0) where
  abbrev header : Bytes
  header = log_header nonce host collector locale

  -- answer 0 says that each item is at most 1,024 bytes, and that the header stands first
  record Wrote : Type 0 where
    short : (length nonce ≤ 1024) × (length host ≤ 1024) × (length collector ≤ 1024) × (length locale ≤ 1024)
    header_first : written r last ≡ header

  wrote : Wrote
  wrote = go (settled_as nonce host collector locale (length out)) refl
    where
      go : (z : Result ℕ Refusal) → z ≡ settled_as nonce host collector locale (length out) → Wrote
      go (Ok n) s =
          let fits = accepts nonce host collector locale n (length out) s in
          let is : outcome r last ≡ done (length header) header out = call ∙ builds_0 nonce host collector locale fits.0 out fits.1 in
          record {
            short = items_fit nonce host collector locale fits.0;
            header_first = (λ i. take (is i).size (is i).output) ∙ take-append_seam header (drop (length header) out);
          }
      go (Err k) s = absurd (refusals.refuses k (ap (λ (o : Outcome). o.number) (refuses nonce host collector locale k out s ∙ sym call) ∙ done-0))

  module _ (items : Items nonce host collector locale) where
    nonce_fits : Fits nonce
    nonce_fits = record { short = wrote.short.0; low = items.nonce_bytes }

    host_fits : Fits host
    host_fits = record { short = wrote.short.1; low = items.host_bytes }

    collector_fits : Fits collector
    collector_fits = record { short = wrote.short.2; low = items.collector_bytes }

    locale_fits : Fits locale
    locale_fits = record { short = wrote.short.3; low = items.locale_bytes }

    -- what the builder wrote reads, with exactly the four items
    pub written_reads : read_header (written r last) ≡ some (nonce ∷ host ∷ collector ∷ locale ∷ [])
    written_reads =
        ap read_header wrote.header_first ∙ log_header_reads nonce host collector locale nonce_fits host_fits collector_fits locale_fits

-- two calls that answered 0 and wrote equal headers had equal items
pub equal_headers : (nonce host collector locale out : Bytes) (r : Result ℕ Refusal) (last : Bytes) (call : Built nonce host collector locale out r last)
    → (zero : number_in r ≡ 0) → (items : Items nonce host collector locale)
    → (nonce' host' collector' locale' out' : Bytes) (r' : Result ℕ Refusal) (last' : Bytes) (call' : Built nonce' host' collector' locale' out' r' last')
    → (zero' : number_in r' ≡ 0) → (items' : Items nonce' host' collector' locale')
    → written r last ≡ written r' last'
    → (nonce ≡ nonce') × (host ≡ host') × (collector ≡ collector') × (locale ≡ locale')
equal_headers a b c d o r l p z i a' b' c' d' o' r' l' p' z' i' e =
    same_items a b c d a' b' c' d' (nonce_fits a b c d o r l p z i) (host_fits a b c d o r l p z i) (collector_fits a b c d o r l p z i) (locale_fits a b c d o r l p z i)
    (nonce_fits a' b' c' d' o' r' l' p' z' i') (host_fits a' b' c' d' o' r' l' p' z' i') (collector_fits a' b' c' d' o' r' l' p' z' i') (locale_fits a' b' c' d' o' r' l' p' z' i')
    (sym (wrote a b c d o r l p z).header_first ∙ e ∙ (wrote a' b' c' d' o' r' l' p' z').header_first)
