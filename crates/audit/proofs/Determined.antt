-- Every public function of every crate of the library is determined by its contract: any two results that the contract allows for the same
-- arguments are equal, and so are any two contents of the lent buffer at exit. An export of `aez_c` has the contract of the function of
-- `aez`, by that crate's own `Exports.antt`. Where the contract speaks of what the words of a result mean, as in `circuit`, `sub_bytes`,
-- `sixteen`, `strings`, `halves` and `turns`, that meaning is what is determined. `Learnt` is a function's contract as its callers have it:
-- the checker makes it from the `ensures` in the source. In each theorem κs are lifetimes, a the arguments, z and w two results, e and f the
-- parameters at two exits.
use mathlib.Core.HLevel.{is_prop→PathP}
use mathlib.Core.List.{List, [], map, is_set as List-set}
use mathlib.Core.Option.{Option, none, some}
use mathlib.Core.Path.{◌≡◌, refl, ap, sym, ◌∙◌}
use Prim.Native.Nat.{ℕ, ◌≤◌}
use native.Mathlib.Bridge.{le_prop}
use native.Mathlib.Nat.{ℕ_set}
use native.Mathlib.Omega.{arith}
use lib.ListN.{length, drop, length-drop}
use Rattle.std.specs.Prelude.{Option as Answered, Some, None}
use Rattle.paper.specs.Strings.{Bytes, tab}
use Rattle.paper.specs.Section7.{◌·◌}
use Rattle.paper.specs.Figure6 as figure6
use Rattle.paper.specs.Document01.{Outcome, OutcomeAt}
use Rattle.answer.specs.Outcomes.{number_in, place_in, outcome, outcome_at}
use Rattle.answer.specs.declared.Refusal.{Refusal}
use Rattle.answer.proofs.Refusals.{one_kept, one_answer, one_test}
use Rattle.settle.specs.Settled.{Settled, settled_by}
use Rattle.answer.specs.declared.Refusal.TheVariants.{KeyLength, LongStretch, BadHeader, TooLong, ShortSealed, NoRoom, DoesNotOpen, LongItem, NoRecord, NoLocale, NoPause, BadList}
use Rattle.audit.proofs.Numbers.{building_no_3, writing_no_3, listing_no_3, clearing_no_3, appending_no_3}
use Rattle.audit.proofs.ReadFiles.{opening_record_no_3}
use Rattle.std.specs.Prelude.{Result, Ok, Err}
use Rattle.paper.specs.DayFile.{before, read_records, Listing}
use Rattle.day_steps.specs.declared.Entry.{Entry}
use Rattle.day_steps.specs.Walks.{record_of, RecordStep, HeadersWalk}
use Rattle.day_list.specs.declared.Listed.{Listed}
use Rattle.day_list.specs.Lists.{counts_in, listing_as}
use Rattle.columns.specs.Columns.{columns_of}
use Rattle.key.specs.declared.Key.{Key}
use Rattle.key.specs.Meaning.{blocks, Kept}
use Rattle.multiples.specs.Eight.{multiples}
use Rattle.circuit.specs.Planes.{lane}
use Rattle.sub_bytes.specs.Planes.{crossed_bytes}
use Rattle.planes.specs.Planes.{plane_block, up_to}
use Rattle.strings.specs.Sums.{so_far}
use Rattle.strings.specs.declared.Sum.{Sum}
use Rattle.block.proofs.xor.Reads as block-xor
use Rattle.block.proofs.pad.Reads as block-pad
use Rattle.block.proofs.number.Reads as block-number
use Rattle.slices.proofs.load.Reads as slices-load
use Rattle.slices.proofs.store.Reads as slices-store
use Rattle.slices.proofs.copy.Reads as slices_copy
use Rattle.slices.proofs.clear.Reads as slices-clear
use Rattle.slices.proofs.same_bytes.Reads as slices-same-bytes
use Rattle.numbers.proofs.read.Reads as numbers-read
use Rattle.numbers.proofs.put.Reads as numbers-put
use Rattle.columns.proofs.column.Reads as columns-column
use Rattle.columns.proofs.of_block.Reads as columns-of-block
use Rattle.columns.proofs.to_block.Reads as columns-to-block
use Rattle.columns.proofs.xor.Reads as columns-xor
use Rattle.columns.proofs.double.Reads as columns-double
use Rattle.sub_bytes.proofs.sub_bytes.Reads as sub-bytes-sub-bytes
use Rattle.sub_bytes.proofs.crossed.Reads as sub-bytes-crossed
use Rattle.aes.proofs.aes.Reads as aes-aes
use Rattle.multiples.proofs.multiples.Reads as multiples-multiples
use Rattle.multiples.proofs.multiple.Reads as multiples-multiple
use Rattle.pairs.proofs.Pair.table.Reads as pairs-table
use Rattle.pairs.proofs.Pair.at.Reads as pairs-at
use Rattle.pairs.proofs.Pair.string.Reads as pairs-string
use Rattle.masks.proofs.next_power.Reads as masks-next-power
use Rattle.masks.proofs.running_mask.Reads as masks-running-mask
use Rattle.tbc.proofs.base_of.Reads as tbc-base-of
use Rattle.tbc.proofs.Base.power.Reads as tbc-base-power
use Rattle.tbc.proofs.e.Reads as tbc-e
use Rattle.tbc.proofs.e_running.Reads as tbc-e-running
use Rattle.tbc.proofs.Base.blocks.Reads as tbc-base-blocks
use Rattle.tbc.proofs.keys0.Reads as tbc-keys0
use Rattle.tbc.proofs.keys_adding.Reads as tbc-keys-adding
use Rattle.key.proofs.key_of.Reads as key-key-of
use Rattle.key.proofs.Key.base.Reads as key-base
use Rattle.key.proofs.Key.multiples.Reads as key-multiples
use Rattle.key.proofs.Key.row_mask.Reads as key-row-mask
use Rattle.levels.proofs.turn.Reads as levels_turn
use Rattle.planes.proofs.of_blocks.Reads as planes-of-blocks
use Rattle.planes.proofs.to_blocks.Reads as planes-to-blocks
use Rattle.planes.proofs.copies.Reads as planes-copies
use Rattle.circuit.proofs.sums.Reads as circuit-sums
use Rattle.circuit.proofs.norm.Reads as circuit-norm
use Rattle.circuit.proofs.inverse16.Reads as circuit-inverse16
use Rattle.circuit.proofs.products.Reads as circuit-products
use Rattle.circuit.proofs.outputs.Reads as circuit-outputs
use Rattle.circuit.proofs.circuit.Reads as circuit-circuit
use Rattle.rows.proofs.turned.Reads as rows-turned
use Rattle.rows.proofs.mixed.Reads as rows-mixed
use Rattle.sixteen.proofs.round.Reads as sixteen-round
use Rattle.sixteen.proofs.rounds4.Reads as sixteen-rounds4
use Rattle.aes.proofs.aes_columns.Reads as aes-aes-columns
use Rattle.groups.proofs.xor.Reads as groups-xor
use Rattle.groups.proofs.load.Reads as groups-load
use Rattle.groups.proofs.sum.Reads as groups-sum
use Rattle.groups.proofs.masks.Reads as groups-masks
use Rattle.groups.proofs.keys.Reads as groups-keys
use Rattle.groups.proofs.under0.Reads as groups-under0
use Rattle.groups.proofs.under1.Reads as groups-under1
use Rattle.groups.proofs.under2.Reads as groups-under2
use Rattle.pass.proofs.added.Reads as pass-added
use Rattle.pass.proofs.put_two.Reads as pass-put-two
use Rattle.pass.proofs.all_pairs.Reads as pass-all-pairs
use Rattle.answer.proofs.Refusal.number.Reads as answer-number
use Rattle.answer.proofs.Refusal.place.Reads as answer-place
use Rattle.answer.proofs.StretchBytes.bits.Reads as answer-bits
use Rattle.header.proofs.entry.Reads as header-entry
use Rattle.header.proofs.count.Reads as header-count
use Rattle.header.proofs.read.Reads as header_read
use Rattle.settle.proofs.settled_sealing.Reads as settle-settled-sealing
use Rattle.settle.proofs.settled_opening.Reads as settle-settled-opening
use Rattle.builder.proofs.put.Reads as builder-put
use Rattle.builder.proofs.log_header.Reads as builder-log-header
use Rattle.strings.proofs.Sum.nothing.Reads as strings-nothing
use Rattle.strings.proofs.Sum.add_string.Reads as strings-add-string
use Rattle.strings.proofs.Sum.hashed.Reads as strings-hashed
use Rattle.hash.proofs.delta.Reads as hash-delta
use Rattle.hash.proofs.prf.Reads as hash-prf
use Rattle.halves.specs.Blocks.{blocks_of}
use Rattle.halves.proofs.front.Reads as halves-front
use Rattle.halves.proofs.and.Reads as halves-and
use Rattle.halves.proofs.halves_of.Reads as halves-halves-of
use Rattle.halves.proofs.put_joined.Reads as halves-put-joined
use Rattle.turns.proofs.turns_up.Reads as turns-turns-up
use Rattle.turns.proofs.turns_down.Reads as turns-turns-down
use Rattle.tiny.proofs.encipher.Reads as tiny-encipher
use Rattle.tiny.proofs.decipher.Reads as tiny-decipher
use Rattle.wide.proofs.core_in_place.Reads as wide-core-in-place
use Rattle.cipher.proofs.encrypt.Reads as cipher-encrypt
use Rattle.cipher.proofs.decrypt.Reads as cipher-decrypt
use Rattle.record.proofs.seal.Reads as record-seal
use Rattle.record.proofs.«open».Reads as record-open
use Rattle.record.proofs.open_part.Reads as record-open-part
use Rattle.day_steps.proofs.entry_at.Reads as day-entry-at
use Rattle.day_steps.proofs.record_at.Reads as day-record-at
use Rattle.day_steps.proofs.headers_end.Reads as day-headers-end
use Rattle.day.proofs.check.Reads as day-check
use Rattle.day_find.proofs.entry_of.Reads as day-entry-of
use Rattle.day_find.proofs.place_from.Reads as day-place-from
use Rattle.day_find.proofs.find_from.Reads as day-find-from
use Rattle.day_find.proofs.find.Reads as day-find
use Rattle.day_list.proofs.list.Reads as day-list
use Rattle.day_marks.proofs.marks.Reads as day-marks-marks
use Rattle.day_marks.proofs.find.Reads as day-marks-find
use Rattle.day_open.proofs.«open».Reads as day-open
use Rattle.day_fit.proofs.headers_fit.Reads as day-headers-fit
use Rattle.day_fit.proofs.records_fit.Reads as day-records-fit
use Rattle.day_put.proofs.put_headers.Reads as day-put-headers
use Rattle.day_put.proofs.put_record.Reads as day-put-record
use Rattle.day_put.proofs.put_records.Reads as day-put-records
use Rattle.day_put.proofs.put_places.Reads as day-put-places
use Rattle.day_write.proofs.write.Reads as day-write
use Rattle.day_place.proofs.move_bytes.Reads as day-move-bytes
use Rattle.day_place.proofs.put_index.Reads as day-put-index
use Rattle.day_grow.proofs.put_grown.Reads as day-put-grown
use Rattle.day_append.proofs.append.Reads as day-append
use Rattle.day_pack.proofs.put_cleared.Reads as day-put-cleared
use Rattle.day_clear.proofs.clear.Reads as day-clear
use Rattle.aez.proofs.aez_seal.Reads as exported-seal
use Rattle.aez.proofs.aez_open.Reads as exported-open
use Rattle.aez.proofs.aez_seal_at.Reads as exported-seal-at
use Rattle.aez.proofs.aez_open_at.Reads as exported-open-at
use Rattle.aez.proofs.aez_header_read.Reads as exported-header-read
use Rattle.aez.proofs.aez_log_header.Reads as exported-log-header
use Rattle.aez.proofs.aez_day_write.Reads as exported-day-write
use Rattle.aez.proofs.aez_day_records.Reads as exported-day-records
use Rattle.aez.proofs.aez_day_open.Reads as exported-day-open
use Rattle.aez.proofs.aez_day_list.Reads as exported-day-list
use Rattle.aez.proofs.aez_day_clear.Reads as exported-day-clear
use Rattle.aez.proofs.aez_day_append.Reads as exported-day-append

-- ---- The general lemmas

-- two that are equal to a third
one : {A : Type 0} {x y z : A} → x ≡ z → y ≡ z → x ≡ y
one p q = p ∙ sym q

-- beside another number than 3 the place is 0
no_place : {A : Type 0} (z : Result A Refusal) → (number_in z ≡ 3 → ⊥) → place_in z ≡ 0
no_place (Ok n) f = refl
no_place (Err KeyLength) f = refl
no_place (Err LongStretch) f = refl
no_place (Err (BadHeader bad)) f = absurd (f refl)
no_place (Err TooLong) f = refl
no_place (Err ShortSealed) f = refl
no_place (Err NoRoom) f = refl
no_place (Err DoesNotOpen) f = refl
no_place (Err LongItem) f = refl
no_place (Err NoRecord) f = refl
no_place (Err NoLocale) f = refl
no_place (Err NoPause) f = refl
no_place (Err BadList) f = refl

-- the same of a door whose contract has no place, since it answers no 3
pub one_outcome : (z w : Result ℕ Refusal) (X Y : Bytes) (o : Outcome) → (o.number ≡ 3 → ⊥) → outcome z X ≡ o → outcome w Y ≡ o → (z ≡ w) × (X ≡ Y)
one_outcome z w X Y o f p q =
    let e : outcome z X ≡ outcome w Y = one p q in
    let zero = no_place z (λ t. f (sym (ap (λ (o : Outcome). o.number) p) ∙ t)) in
    let other = no_place w (λ t. f (sym (ap (λ (o : Outcome). o.number) q) ∙ t)) in
    (one_answer z w (ap (λ (o : Outcome). o.number) e) (ap (λ (o : Outcome). o.size) e) (one zero other), ap (λ (o : Outcome). o.output) e)

one_outcome_at : (z w : Result ℕ Refusal) (X Y : Bytes) (o : OutcomeAt) → outcome_at z X ≡ o → outcome_at w Y ≡ o → (z ≡ w) × (X ≡ Y)
one_outcome_at z w X Y o p q =
    let e : outcome_at z X ≡ outcome_at w Y = one p q in
    (one_answer z w (ap (λ (o : OutcomeAt). o.number) e) (ap (λ (o : OutcomeAt). o.size) e) (ap (λ (o : OutcomeAt). o.place) e), ap (λ (o : OutcomeAt). o.output) e)

-- what the tests before a call settle
one_settled : (z w : Result (Unit {0}) Refusal) (s : Settled) → settled_by z ≡ s → settled_by w ≡ s → z ≡ w
one_settled z w s p q = let e : settled_by z ≡ settled_by w = one p q in one_test z w (ap (λ (s : Settled). s.number) e) (ap (λ (s : Settled). s.at) e)

-- the same of a listing
one_listing : (z w : Result Listed Refusal) (X Y : List ℕ) (o : Listing) → (o.number ≡ 3 → ⊥) → listing_as z X ≡ o → listing_as w Y ≡ o → (z ≡ w) × (X ≡ Y)
one_listing z w X Y o f p q =
    let e : listing_as z X ≡ listing_as w Y = one p q in
    let zero = no_place z (λ t. f (sym (ap (λ (o : Listing). o.number) p) ∙ t)) in
    let other = no_place w (λ t. f (sym (ap (λ (o : Listing). o.number) q) ∙ t)) in
    let counts : counts_in z ≡ counts_in w = ap (λ (o : Listing). record { headers = o.headers; records = o.records }) e in
    (one_kept counts_in (λ c. refl) z w (ap (λ (o : Listing). o.number) e) counts (one zero other), ap (λ (o : Listing). o.places) e)

-- a step over a record and a walk over headers: what is read of the rest tells the two apart
no_records : (headers : ℕ) (X : Bytes) → read_records headers 0 X ≡ some ([], X)
unfolding read_records
no_records headers X = refl

no_two : {A B : Type 0} {x : A} → none ≡ some x → B
no_two e = absurd (let z : ◌≡◌ {A = ℕ} 0 1 = cc in omega arith)

one_step : (file : Bytes) (headers at : ℕ) (z w : Answered Entry) → RecordStep z file headers at → RecordStep w file headers at → z ≡ w
one_step file headers at None None p q = refl
one_step file headers at None (Some e) p q = no_two (sym (p 0) ∙ q.2 0 ∙ ap (before (record_of file e)) (no_records headers (drop e.end file)))
one_step file headers at (Some e) None p q = no_two (sym (q 0) ∙ p.2 0 ∙ ap (before (record_of file e)) (no_records headers (drop e.end file)))
one_step file headers at (Some e) (Some g) p q = ap Some (one p.0 q.0)

abbrev after : Option (List Bytes × Bytes) → Bytes
after none = []
after (some (hs, X)) = X

one_walk : (file : Bytes) (n : ℕ) (z w : Answered ℕ) → HeadersWalk z file n → HeadersWalk w file n → z ≡ w
one_walk file n None None p q = refl
one_walk file n None (Some b) p q = no_two (sym p ∙ q.1.1)
one_walk file n (Some a) None p q = no_two (sym q ∙ p.1.1)
one_walk file n (Some a) (Some b) p q =
    let rest : drop a file ≡ drop b file = ap after (sym p.1.1 ∙ q.1.1) in
    let same : a ≡ b = omega (arith, p.0, q.0, ap length rest, length-drop a file, length-drop b file) in
    ap Some same

-- numbers in a list are equal in one way
numbers_set : IsSet (List ℕ)
numbers_set = List-set ℕ_set

-- a key record by its blocks, of which the others are multiples
one_key : (z w : Key) (k : figure6.Key) → blocks z ≡ k → Kept z → blocks w ≡ k → Kept w → z ≡ w
one_key z w k p y q x =
    let same : blocks z ≡ blocks w = one p q in
    let I2 = y.I2 ∙ ap (λ (b : figure6.Key). columns_of (2 · b.I)) same ∙ sym x.I2 in
    let J2 = y.J2 ∙ ap (λ (b : figure6.Key). columns_of (2 · b.J)) same ∙ sym x.J2 in
    let Ls = y.Ls ∙ ap (λ (b : figure6.Key). multiples b.L) same ∙ sym x.Ls in
    let Js = y.Js ∙ ap (λ (b : figure6.Key). multiples b.J) same ∙ sym x.Js in
    let Rows = y.Rows ∙ ap (λ (b : figure6.Key). multiples (8 · b.J)) same ∙ sym x.Rows in
    λ i.
    record {
      i = (same i).I;
      j = (same i).J;
      l = (same i).L;
      i2 = I2 i;
      j2 = J2 i;
      ls = Ls i;
      js = Js i;
      rows = Rows i;
      twice_i = is_prop→PathP (λ n. I2 n ≡ columns_of (2 · (same n).I)) (λ n. numbers_set _ _) z.twice_i w.twice_i i;
      twice_j = is_prop→PathP (λ n. J2 n ≡ columns_of (2 · (same n).J)) (λ n. numbers_set _ _) z.twice_j w.twice_j i;
      of_l = is_prop→PathP (λ n. Ls n ≡ multiples (same n).L) (λ n. numbers_set _ _) z.of_l w.of_l i;
      of_j = is_prop→PathP (λ n. Js n ≡ multiples (same n).J) (λ n. numbers_set _ _) z.of_j w.of_j i;
      of_8j = is_prop→PathP (λ n. Rows n ≡ multiples (8 · (same n).J)) (λ n. numbers_set _ _) z.of_8j w.of_8j i;
    }

-- a sum by what is summed, its group and how many of its blocks wait
one_sum : (z w : Sum) → z.total ≡ w.total → z.group ≡ w.group → z.waiting ≡ w.waiting → z ≡ w
one_sum z w t g n = λ i. record { total = t i; group = g i; waiting = n i; few = is_prop→PathP (λ m. n m ≤ 16) (λ m. le_prop) z.few w.few i }

-- ---- Blocks: `block`

pub block_xor_determined : (κs : _) (a : _) (z w : _) (e f : _) → block-xor.Learnt κs a z e → block-xor.Learnt κs a w f → z ≡ w
block_xor_determined κs a z w e f p q = one p q

pub block_pad_determined : (κs : _) (a : _) (z w : _) (e f : _) → block-pad.Learnt κs a z e → block-pad.Learnt κs a w f → z ≡ w
block_pad_determined κs a z w e f p q = one p q

pub block_number_determined : (κs : _) (a : _) (z w : _) (e f : _) → block-number.Learnt κs a z e → block-number.Learnt κs a w f → z ≡ w
block_number_determined κs a z w e f p q = one p q

pub slices_load_determined : (κs : _) (a : _) (z w : _) (e f : _) → slices-load.Learnt κs a z e → slices-load.Learnt κs a w f → z ≡ w
slices_load_determined κs a z w e f p q = one p q

pub slices_store_determined : (κs : _) (a : _) (z w : _) (e f : _) → slices-store.Learnt κs a z e → slices-store.Learnt κs a w f → e.0.now ≡ f.0.now
slices_store_determined κs a z w e f p q = one p q

pub slices_copy_determined : (κs : _) (a : _) (z w : _) (e f : _) → slices_copy.Learnt κs a z e → slices_copy.Learnt κs a w f → e.0.now ≡ f.0.now
slices_copy_determined κs a z w e f p q = one p q

pub slices_clear_determined : (κs : _) (a : _) (z w : _) (e f : _) → slices-clear.Learnt κs a z e → slices-clear.Learnt κs a w f → e.0.now ≡ f.0.now
slices_clear_determined κs a z w e f p q = one p q

pub slices_same_bytes_determined : (κs : _) (a : _) (z w : _) (e f : _) → slices-same-bytes.Learnt κs a z e → slices-same-bytes.Learnt κs a w f → z ≡ w
slices_same_bytes_determined κs a z w e f p q = one p q

-- ---- Numbers in bytes: `numbers`

pub numbers_read_determined : (N : _) (h : _) (κs : _) (a : _) (z w : _) (e f : _) → numbers-read.Learnt N h κs a z e → numbers-read.Learnt N h κs a w f → z ≡ w
numbers_read_determined N h κs a z w e f p q = one p.0 q.0

pub numbers_put_determined : (N : _) (h : _) (κs : _) (a : _) (z w : _) (e f : _) → numbers-put.Learnt N h κs a z e → numbers-put.Learnt N h κs a w f → e.0.now ≡ f.0.now
numbers_put_determined N h κs a z w e f p q = one p q

-- ---- Blocks of columns: `columns`

pub columns_column_determined : (κs : _) (a : _) (z w : _) (e f : _) → columns-column.Learnt κs a z e → columns-column.Learnt κs a w f → z ≡ w
columns_column_determined κs a z w e f p q = one p q

pub columns_of_block_determined : (κs : _) (a : _) (z w : _) (e f : _) → columns-of-block.Learnt κs a z e → columns-of-block.Learnt κs a w f → z ≡ w
columns_of_block_determined κs a z w e f p q = one p q

pub columns_to_block_determined : (κs : _) (a : _) (z w : _) (e f : _) → columns-to-block.Learnt κs a z e → columns-to-block.Learnt κs a w f → z ≡ w
columns_to_block_determined κs a z w e f p q = one p q

pub columns_xor_determined : (κs : _) (a : _) (z w : _) (e f : _) → columns-xor.Learnt κs a z e → columns-xor.Learnt κs a w f → z ≡ w
columns_xor_determined κs a z w e f p q = one p q

pub columns_double_determined : (κs : _) (a : _) (z w : _) (e f : _) → columns-double.Learnt κs a z e → columns-double.Learnt κs a w f → z ≡ w
columns_double_determined κs a z w e f p q = one p q

-- ---- Words turned over: `levels`

pub levels_turn_determined : (κs : _) (a : _) (z w : _) (e f : _) → levels_turn.Learnt κs a z e → levels_turn.Learnt κs a w f → e.0.now ≡ f.0.now
levels_turn_determined κs a z w e f p q = one p q

-- ---- Sixteen blocks on planes: `planes`

pub planes_of_blocks_determined : (κs : _) (a : _) (z w : _) (e f : _) → planes-of-blocks.Learnt κs a z e → planes-of-blocks.Learnt κs a w f → z ≡ w
planes_of_blocks_determined κs a z w e f p q = one p.1 q.1

pub planes_to_blocks_determined : (κs : _) (a : _) (z w : _) (e f : _) → planes-to-blocks.Learnt κs a z e → planes-to-blocks.Learnt κs a w f → z ≡ w
planes_to_blocks_determined κs a z w e f p q = one p.1 q.1

pub planes_copies_determined : (κs : _) (a : _) (z w : _) (e f : _) → planes-copies.Learnt κs a z e → planes-copies.Learnt κs a w f → z ≡ w
planes_copies_determined κs a z w e f p q = one p.1 q.1

-- ---- The S-box as a circuit: `circuit`. Of the whole, the 64 bytes that stand in its lanes

pub circuit_sums_determined : (κs : _) (a : _) (z w : _) (e f : _) → circuit-sums.Learnt κs a z e → circuit-sums.Learnt κs a w f → z ≡ w
circuit_sums_determined κs a z w e f p q = one p q

pub circuit_norm_determined : (κs : _) (a : _) (z w : _) (e f : _) → circuit-norm.Learnt κs a z e → circuit-norm.Learnt κs a w f → z ≡ w
circuit_norm_determined κs a z w e f p q = one p q

pub circuit_inverse16_determined : (κs : _) (a : _) (z w : _) (e f : _) → circuit-inverse16.Learnt κs a z e → circuit-inverse16.Learnt κs a w f → z ≡ w
circuit_inverse16_determined κs a z w e f p q = one p q

pub circuit_products_determined : (κs : _) (a : _) (z w : _) (e f : _) → circuit-products.Learnt κs a z e → circuit-products.Learnt κs a w f → z ≡ w
circuit_products_determined κs a z w e f p q = one p q

pub circuit_outputs_determined : (κs : _) (a : _) (z w : _) (e f : _) → circuit-outputs.Learnt κs a z e → circuit-outputs.Learnt κs a w f → z ≡ w
circuit_outputs_determined κs a z w e f p q = one p q

pub circuit_circuit_determined : (κs : _) (a : _) (z w : _) (e f : _) → circuit-circuit.Learnt κs a z e → circuit-circuit.Learnt κs a w f → tab 64 (lane z) ≡ tab 64 (lane w)
circuit_circuit_determined κs a z w e f p q = one p q

-- ---- Rows on planes: `rows`

pub rows_turned_determined : (κs : _) (a : _) (z w : _) (e f : _) → rows-turned.Learnt κs a z e → rows-turned.Learnt κs a w f → z ≡ w
rows_turned_determined κs a z w e f p q = one p q

pub rows_mixed_determined : (κs : _) (a : _) (z w : _) (e f : _) → rows-mixed.Learnt κs a z e → rows-mixed.Learnt κs a w f → z ≡ w
rows_mixed_determined κs a z w e f p q = one p q

-- ---- Rounds of sixteen blocks: `sixteen`. The blocks that stand in the sixteen places

pub sixteen_round_determined : (κs : _) (a : _) (z w : _) (e f : _) → sixteen-round.Learnt κs a z e → sixteen-round.Learnt κs a w f → map (plane_block z) (up_to 16) ≡ map (plane_block w) (up_to 16)
sixteen_round_determined κs a z w e f p q = one p q

pub sixteen_rounds4_determined : (κs : _) (a : _) (z w : _) (e f : _) → sixteen-rounds4.Learnt κs a z e → sixteen-rounds4.Learnt κs a w f → map (plane_block z) (up_to 16) ≡ map (plane_block w) (up_to 16)
sixteen_rounds4_determined κs a z w e f p q = one p q

-- ---- SubBytes: `sub_bytes`

pub sub_bytes_sub_bytes_determined : (κs : _) (a : _) (z w : _) (e f : _) → sub-bytes-sub-bytes.Learnt κs a z e → sub-bytes-sub-bytes.Learnt κs a w f → crossed_bytes z ≡ crossed_bytes w
sub_bytes_sub_bytes_determined κs a z w e f p q = one p q

pub sub_bytes_crossed_determined : (κs : _) (a : _) (z w : _) (e f : _) → sub-bytes-crossed.Learnt κs a z e → sub-bytes-crossed.Learnt κs a w f → z ≡ w
sub_bytes_crossed_determined κs a z w e f p q = one p q

-- ---- The AES round: `aes`

pub aes_aes_determined : (κs : _) (a : _) (z w : _) (e f : _) → aes-aes.Learnt κs a z e → aes-aes.Learnt κs a w f → z ≡ w
aes_aes_determined κs a z w e f p q = one p q

pub aes_aes_columns_determined : (κs : _) (a : _) (z w : _) (e f : _) → aes-aes-columns.Learnt κs a z e → aes-aes-columns.Learnt κs a w f → z ≡ w
aes_aes_columns_determined κs a z w e f p q = one p q

-- ---- Multiples of a block: `multiples`

pub multiples_multiples_determined : (κs : _) (a : _) (z w : _) (e f : _) → multiples-multiples.Learnt κs a z e → multiples-multiples.Learnt κs a w f → z ≡ w
multiples_multiples_determined κs a z w e f p q = one p q

pub multiples_multiple_determined : (κs : _) (a : _) (z w : _) (e f : _) → multiples-multiple.Learnt κs a z e → multiples-multiple.Learnt κs a w f → z ≡ w
multiples_multiple_determined κs a z w e f p q = one p q

-- ---- Index pairs: `pairs`

pub pairs_table_determined : (κs : _) (a : _) (z w : _) (e f : _) → pairs-table.Learnt κs a z e → pairs-table.Learnt κs a w f → z ≡ w
pairs_table_determined κs a z w e f p q = one p q

pub pairs_at_determined : (κs : _) (a : _) (z w : _) (e f : _) → pairs-at.Learnt κs a z e → pairs-at.Learnt κs a w f → z ≡ w
pairs_at_determined κs a z w e f p q = one p q

pub pairs_string_determined : (κs : _) (a : _) (z w : _) (e f : _) → pairs-string.Learnt κs a z e → pairs-string.Learnt κs a w f → z ≡ w
pairs_string_determined κs a z w e f p q = one p q

-- ---- The mask of a number that counts: `masks`

pub masks_next_power_determined : (κs : _) (a : _) (z w : _) (e f : _) → masks-next-power.Learnt κs a z e → masks-next-power.Learnt κs a w f → z ≡ w
masks_next_power_determined κs a z w e f p q = one p q

pub masks_running_mask_determined : (κs : _) (a : _) (z w : _) (e f : _) → masks-running-mask.Learnt κs a z e → masks-running-mask.Learnt κs a w f → z ≡ w
masks_running_mask_determined κs a z w e f p q = one p q

-- ---- The block function: `tbc`

pub tbc_base_of_determined : (κs : _) (a : _) (z w : _) (e f : _) → tbc-base-of.Learnt κs a z e → tbc-base-of.Learnt κs a w f → z ≡ w
tbc_base_of_determined κs a z w e f p q = one p q

pub tbc_base_power_determined : (κs : _) (a : _) (z w : _) (e f : _) → tbc-base-power.Learnt κs a z e → tbc-base-power.Learnt κs a w f → z ≡ w
tbc_base_power_determined κs a z w e f p q = one p q

pub tbc_e_determined : (κs : _) (a : _) (z w : _) (e f : _) → tbc-e.Learnt κs a z e → tbc-e.Learnt κs a w f → z ≡ w
tbc_e_determined κs a z w e f p q = one p q

pub tbc_e_running_determined : (κs : _) (a : _) (z w : _) (e f : _) → tbc-e-running.Learnt κs a z e → tbc-e-running.Learnt κs a w f → z ≡ w
tbc_e_running_determined κs a z w e f p q = one p q

pub tbc_base_blocks_determined : (κs : _) (a : _) (z w : _) (e f : _) → tbc-base-blocks.Learnt κs a z e → tbc-base-blocks.Learnt κs a w f → z ≡ w
tbc_base_blocks_determined κs a z w e f p q = one p q

pub tbc_keys0_determined : (κs : _) (a : _) (z w : _) (e f : _) → tbc-keys0.Learnt κs a z e → tbc-keys0.Learnt κs a w f → z ≡ w
tbc_keys0_determined κs a z w e f p q = one p q

pub tbc_keys_adding_determined : (κs : _) (a : _) (z w : _) (e f : _) → tbc-keys-adding.Learnt κs a z e → tbc-keys-adding.Learnt κs a w f → z ≡ w
tbc_keys_adding_determined κs a z w e f p q = one p q

-- ---- The key record: `key`

pub key_key_of_determined : (κs : _) (a : _) (z w : _) (e f : _) → key-key-of.Learnt κs a z e → key-key-of.Learnt κs a w f → z ≡ w
key_key_of_determined κs a z w e f p q = one_key z w _ p.0 p.1 q.0 q.1

pub key_base_determined : (κs : _) (a : _) (z w : _) (e f : _) → key-base.Learnt κs a z e → key-base.Learnt κs a w f → z ≡ w
key_base_determined κs a z w e f p q = one p q

pub key_multiples_determined : (κs : _) (a : _) (z w : _) (e f : _) → key-multiples.Learnt κs a z e → key-multiples.Learnt κs a w f → z ≡ w
key_multiples_determined κs a z w e f p q = one p q

pub key_row_mask_determined : (κs : _) (a : _) (z w : _) (e f : _) → key-row-mask.Learnt κs a z e → key-row-mask.Learnt κs a w f → z ≡ w
key_row_mask_determined κs a z w e f p q = one p q

-- ---- Groups of blocks: `groups`

pub groups_xor_determined : (κs : _) (a : _) (z w : _) (e f : _) → groups-xor.Learnt κs a z e → groups-xor.Learnt κs a w f → z ≡ w
groups_xor_determined κs a z w e f p q = one p q

pub groups_load_determined : (κs : _) (a : _) (z w : _) (e f : _) → groups-load.Learnt κs a z e → groups-load.Learnt κs a w f → z ≡ w
groups_load_determined κs a z w e f p q = one p q

pub groups_sum_determined : (κs : _) (a : _) (z w : _) (e f : _) → groups-sum.Learnt κs a z e → groups-sum.Learnt κs a w f → z ≡ w
groups_sum_determined κs a z w e f p q = one p q

pub groups_masks_determined : (κs : _) (a : _) (z w : _) (e f : _) → groups-masks.Learnt κs a z e → groups-masks.Learnt κs a w f → z ≡ w
groups_masks_determined κs a z w e f p q = one p q

pub groups_under0_determined : (κs : _) (a : _) (z w : _) (e f : _) → groups-under0.Learnt κs a z e → groups-under0.Learnt κs a w f → z ≡ w
groups_under0_determined κs a z w e f p q = one p q

pub groups_under1_determined : (κs : _) (a : _) (z w : _) (e f : _) → groups-under1.Learnt κs a z e → groups-under1.Learnt κs a w f → z ≡ w
groups_under1_determined κs a z w e f p q = one p q

pub groups_under2_determined : (κs : _) (a : _) (z w : _) (e f : _) → groups-under2.Learnt κs a z e → groups-under2.Learnt κs a w f → z ≡ w
groups_under2_determined κs a z w e f p q = one p q

pub groups_keys_determined : (κs : _) (a : _) (z w : _) (e f : _) → groups-keys.Learnt κs a z e → groups-keys.Learnt κs a w f → z ≡ w
groups_keys_determined κs a z w e f p q = one p.1 q.1

-- ---- What a door answers by: `answer`

pub answer_number_determined : (κs : _) (a : _) (z w : _) (e f : _) → answer-number.Learnt κs a z e → answer-number.Learnt κs a w f → z ≡ w
answer_number_determined κs a z w e f p q = one p q

pub answer_place_determined : (κs : _) (a : _) (z w : _) (e f : _) → answer-place.Learnt κs a z e → answer-place.Learnt κs a w f → z ≡ w
answer_place_determined κs a z w e f p q = one p q

pub answer_bits_determined : (κs : _) (a : _) (z w : _) (e f : _) → answer-bits.Learnt κs a z e → answer-bits.Learnt κs a w f → z ≡ w
answer_bits_determined κs a z w e f p q = λ i. record { 0 = one p q i }

-- ---- Headers: `header`

pub header_entry_determined : (κs : _) (a : _) (z w : _) (e f : _) → header-entry.Learnt κs a z e → header-entry.Learnt κs a w f → z ≡ w
header_entry_determined κs a z w e f p q = one p.0 q.0

pub header_count_determined : (κs : _) (a : _) (z w : _) (e f : _) → header-count.Learnt κs a z e → header-count.Learnt κs a w f → z ≡ w
header_count_determined κs a z w e f p q = one p.0 q.0

pub header_read_determined : (κs : _) (a : _) (z w : _) (e f : _) → header_read.Learnt κs a z e → header_read.Learnt κs a w f → z ≡ w
header_read_determined κs a z w e f p q = one p q

pub settle_settled_sealing_determined : (κs : _) (a : _) (z w : _) (e f : _) → settle-settled-sealing.Learnt κs a z e → settle-settled-sealing.Learnt κs a w f → z ≡ w
settle_settled_sealing_determined κs a z w e f p q = one_settled z w _ p q

pub settle_settled_opening_determined : (κs : _) (a : _) (z w : _) (e f : _) → settle-settled-opening.Learnt κs a z e → settle-settled-opening.Learnt κs a w f → z ≡ w
settle_settled_opening_determined κs a z w e f p q = one_settled z w _ p q

pub builder_put_determined : (κs : _) (a : _) (z w : _) (e f : _) → builder-put.Learnt κs a z e → builder-put.Learnt κs a w f → (z ≡ w) × (e.0.now ≡ f.0.now)
builder_put_determined κs a z w e f p q = (one p.0 q.0, one p.1 q.1)

pub builder_log_header_determined : (κs : _) (a : _) (z w : _) (e f : _) → builder-log-header.Learnt κs a z e → builder-log-header.Learnt κs a w f → (z ≡ w) × (e.1.1.1.1.0.now ≡ f.1.1.1.1.0.now)
builder_log_header_determined κs a z w e f p q =
    one_outcome z w e.1.1.1.1.0.now f.1.1.1.1.0.now _ (building_no_3 a.0.now a.1.0.now a.1.1.0.now a.1.1.1.0.now a.1.1.1.1.0.now) p q

-- ---- The strings of a tweak: `strings`

pub strings_nothing_determined : (κs : _) (a : _) (z w : _) (e f : _) → strings-nothing.Learnt κs a z e → strings-nothing.Learnt κs a w f → z ≡ w
strings_nothing_determined κs a z w e f p q = one_sum z w (one p.0 q.0) (one p.1 q.1) (one p.2 q.2)

-- what is hashed so far; which of its blocks wait is left open
pub strings_add_string_determined : (κs : _) (a : _) (z w : _) (e f : _) → strings-add-string.Learnt κs a z e → strings-add-string.Learnt κs a w f
    → so_far (blocks a.1.0) e.0.now ≡ so_far (blocks a.1.0) f.0.now
strings_add_string_determined κs a z w e f p q = one p q

pub strings_hashed_determined : (κs : _) (a : _) (z w : _) (e f : _) → strings-hashed.Learnt κs a z e → strings-hashed.Learnt κs a w f → z ≡ w
strings_hashed_determined κs a z w e f p q = one p q

-- ---- The hash and the prf: `hash`

pub hash_delta_determined : (κs : _) (a : _) (z w : _) (e f : _) → hash-delta.Learnt κs a z e → hash-delta.Learnt κs a w f → z ≡ w
hash_delta_determined κs a z w e f p q = one p q

pub hash_prf_determined : (κs : _) (a : _) (z w : _) (e f : _) → hash-prf.Learnt κs a z e → hash-prf.Learnt κs a w f → e.1.1.0.now ≡ f.1.1.0.now
hash_prf_determined κs a z w e f p q = one p q

-- ---- AEZ-tiny: `halves`, `turns`, `tiny`

pub halves_front_determined : (κs : _) (a : _) (z w : _) (e f : _) → halves-front.Learnt κs a z e → halves-front.Learnt κs a w f → z ≡ w
halves_front_determined κs a z w e f p q = one p q

pub halves_and_determined : (κs : _) (a : _) (z w : _) (e f : _) → halves-and.Learnt κs a z e → halves-and.Learnt κs a w f → z ≡ w
halves_and_determined κs a z w e f p q = one p q

-- the halves as blocks (docs/CONTRACTS.md)
pub halves_halves_of_determined : (κs : _) (a : _) (z w : _) (e f : _) → halves-halves-of.Learnt κs a z e → halves-halves-of.Learnt κs a w f → blocks_of z ≡ blocks_of w
halves_halves_of_determined κs a z w e f p q = one p q

pub halves_put_joined_determined : (κs : _) (a : _) (z w : _) (e f : _) → halves-put-joined.Learnt κs a z e → halves-put-joined.Learnt κs a w f → e.1.0.now ≡ f.1.0.now
halves_put_joined_determined κs a z w e f p q = one p q

pub turns_turns_up_determined : (κs : _) (a : _) (z w : _) (e f : _) → turns-turns-up.Learnt κs a z e → turns-turns-up.Learnt κs a w f → blocks_of z ≡ blocks_of w
turns_turns_up_determined κs a z w e f p q = one p q

pub turns_turns_down_determined : (κs : _) (a : _) (z w : _) (e f : _) → turns-turns-down.Learnt κs a z e → turns-turns-down.Learnt κs a w f → blocks_of z ≡ blocks_of w
turns_turns_down_determined κs a z w e f p q = one p q

pub tiny_encipher_determined : (κs : _) (a : _) (z w : _) (e f : _) → tiny-encipher.Learnt κs a z e → tiny-encipher.Learnt κs a w f → e.1.1.0.now ≡ f.1.1.0.now
tiny_encipher_determined κs a z w e f p q = one p q

pub tiny_decipher_determined : (κs : _) (a : _) (z w : _) (e f : _) → tiny-decipher.Learnt κs a z e → tiny-decipher.Learnt κs a w f → e.1.1.0.now ≡ f.1.1.0.now
tiny_decipher_determined κs a z w e f p q = one p q

-- ---- AEZ-core's passes: `pass`

pub pass_added_determined : (κs : _) (a : _) (z w : _) (e f : _) → pass-added.Learnt κs a z e → pass-added.Learnt κs a w f → z ≡ w
pass_added_determined κs a z w e f p q = one p q

pub pass_put_two_determined : (κs : _) (a : _) (z w : _) (e f : _) → pass-put-two.Learnt κs a z e → pass-put-two.Learnt κs a w f → e.0.now ≡ f.0.now
pass_put_two_determined κs a z w e f p q = one p q

pub pass_all_pairs_determined : (κs : _) (a : _) (z w : _) (e f : _) → pass-all-pairs.Learnt κs a z e → pass-all-pairs.Learnt κs a w f → (z ≡ w) × (e.1.1.1.1.0.now ≡ f.1.1.1.1.0.now)
pass_all_pairs_determined κs a z w e f p q = (one p.0 q.0, one p.1 q.1)

-- ---- AEZ-core: `wide`

pub wide_core_in_place_determined : (κs : _) (a : _) (z w : _) (e f : _) → wide-core-in-place.Learnt κs a z e → wide-core-in-place.Learnt κs a w f → e.1.1.1.0.now ≡ f.1.1.1.0.now
wide_core_in_place_determined κs a z w e f p q = one p q

-- ---- Which branch: `cipher`

pub cipher_encrypt_determined : (κs : _) (a : _) (z w : _) (e f : _) → cipher-encrypt.Learnt κs a z e → cipher-encrypt.Learnt κs a w f → e.1.1.1.0.now ≡ f.1.1.1.0.now
cipher_encrypt_determined κs a z w e f p q = one p q

pub cipher_decrypt_determined : (κs : _) (a : _) (z w : _) (e f : _) → cipher-decrypt.Learnt κs a z e → cipher-decrypt.Learnt κs a w f → (z ≡ w) × (e.1.1.1.1.0.now ≡ f.1.1.1.1.0.now)
cipher_decrypt_determined κs a z w e f p q = (one p.0 q.0, one p.1 q.1)

-- ---- Sealing and opening: `record`

pub record_seal_determined : (κs : _) (a : _) (z w : _) (e f : _) → record-seal.Learnt κs a z e → record-seal.Learnt κs a w f → (z ≡ w) × (e.1.1.1.1.0.now ≡ f.1.1.1.1.0.now)
record_seal_determined κs a z w e f p q = one_outcome_at z w e.1.1.1.1.0.now f.1.1.1.1.0.now _ p q

pub record_open_determined : (κs : _) (a : _) (z w : _) (e f : _) → record-open.Learnt κs a z e → record-open.Learnt κs a w f → (z ≡ w) × (e.1.1.1.1.0.now ≡ f.1.1.1.1.0.now)
record_open_determined κs a z w e f p q = one_outcome_at z w e.1.1.1.1.0.now f.1.1.1.1.0.now _ p q

-- the part begins where the output does, and its bytes are determined; what lies past it no contract can say (docs/CONTRACTS.md)
pub record_open_part_determined : (κs : _) (a : _) (z w : _) (e f : _) → record-open-part.Learnt κs a z e → record-open-part.Learnt κs a w f → (z.ref_ptr ≡ w.ref_ptr) × (z.now ≡ w.now)
record_open_part_determined κs a z w e f p q = (one p.0 q.0, one p.1 q.1)

-- ---- The day file: the crates whose names begin with `day`

pub day_entry_at_determined : (κs : _) (a : _) (z w : _) (e f : _) → day-entry-at.Learnt κs a z e → day-entry-at.Learnt κs a w f → z ≡ w
day_entry_at_determined κs a z w e f p q = one p.0 q.0

pub day_record_at_determined : (κs : _) (a : _) (z w : _) (e f : _) → day-record-at.Learnt κs a z e → day-record-at.Learnt κs a w f → z ≡ w
day_record_at_determined κs a z w e f p q = one_step _ _ _ z w p q

pub day_headers_end_determined : (κs : _) (a : _) (z w : _) (e f : _) → day-headers-end.Learnt κs a z e → day-headers-end.Learnt κs a w f → z ≡ w
day_headers_end_determined κs a z w e f p q = one_walk _ _ z w p q

pub day_check_determined : (κs : _) (a : _) (z w : _) (e f : _) → day-check.Learnt κs a z e → day-check.Learnt κs a w f → z ≡ w
day_check_determined κs a z w e f p q = one p q

pub day_entry_of_determined : (κs : _) (a : _) (z w : _) (e f : _) → day-entry-of.Learnt κs a z e → day-entry-of.Learnt κs a w f → z ≡ w
day_entry_of_determined κs a z w e f p q = one p.0 q.0

pub day_place_from_determined : (κs : _) (a : _) (z w : _) (e f : _) → day-place-from.Learnt κs a z e → day-place-from.Learnt κs a w f → z ≡ w
day_place_from_determined κs a z w e f p q = one p q

pub day_find_from_determined : (κs : _) (a : _) (z w : _) (e f : _) → day-find-from.Learnt κs a z e → day-find-from.Learnt κs a w f → z ≡ w
day_find_from_determined κs a z w e f p q = one p.0 q.0

pub day_find_determined : (κs : _) (a : _) (z w : _) (e f : _) → day-find.Learnt κs a z e → day-find.Learnt κs a w f → z ≡ w
day_find_determined κs a z w e f p q = one p.0 q.0

pub day_list_determined : (κs : _) (a : _) (z w : _) (e f : _) → day-list.Learnt κs a z e → day-list.Learnt κs a w f → (z ≡ w) × (e.1.0.now ≡ f.1.0.now)
day_list_determined κs a z w e f p q = one_listing z w e.1.0.now f.1.0.now _ (listing_no_3 a.0.now a.1.0.now) p q

pub day_marks_marks_determined : (κs : _) (a : _) (z w : _) (e f : _) → day-marks-marks.Learnt κs a z e → day-marks-marks.Learnt κs a w f → z ≡ w
day_marks_marks_determined κs a z w e f p q = one p q

pub day_marks_find_determined : (κs : _) (a : _) (z w : _) (e f : _) → day-marks-find.Learnt κs a z e → day-marks-find.Learnt κs a w f → z ≡ w
day_marks_find_determined κs a z w e f p q = one p.0 q.0

pub day_open_determined : (κs : _) (a : _) (z w : _) (e f : _) → day-open.Learnt κs a z e → day-open.Learnt κs a w f → (z ≡ w) × (e.1.1.1.0.now ≡ f.1.1.1.0.now)
day_open_determined κs a z w e f p q = one_outcome z w e.1.1.1.0.now f.1.1.1.0.now _ (opening_record_no_3 a.0.now a.1.0.now a.1.1.0 a.1.1.1.0.now) p q

pub day_headers_fit_determined : (κs : _) (a : _) (z w : _) (e f : _) → day-headers-fit.Learnt κs a z e → day-headers-fit.Learnt κs a w f → z ≡ w
day_headers_fit_determined κs a z w e f p q = one p q

pub day_records_fit_determined : (κs : _) (a : _) (z w : _) (e f : _) → day-records-fit.Learnt κs a z e → day-records-fit.Learnt κs a w f → z ≡ w
day_records_fit_determined κs a z w e f p q = one p q

pub day_put_headers_determined : (κs : _) (a : _) (z w : _) (e f : _) → day-put-headers.Learnt κs a z e → day-put-headers.Learnt κs a w f → (z ≡ w) × (e.1.1.0.now ≡ f.1.1.0.now)
day_put_headers_determined κs a z w e f p q = (one p.0 q.0, one p.1 q.1)

pub day_write_determined : (κs : _) (a : _) (z w : _) (e f : _) → day-write.Learnt κs a z e → day-write.Learnt κs a w f → (z ≡ w) × (e.1.1.1.1.1.1.0.now ≡ f.1.1.1.1.1.1.0.now)
day_write_determined κs a z w e f p q =
    one_outcome z w e.1.1.1.1.1.1.0.now f.1.1.1.1.1.1.0.now _
    (writing_no_3 a.0.now a.1.0.now a.1.1.0.now a.1.1.1.0.now a.1.1.1.1.0.now a.1.1.1.1.1.0.now a.1.1.1.1.1.1.0.now) p q

pub day_put_record_determined : (κs : _) (a : _) (z w : _) (e f : _) → day-put-record.Learnt κs a z e → day-put-record.Learnt κs a w f → e.0.now ≡ f.0.now
day_put_record_determined κs a z w e f p q = one p q

pub day_put_records_determined : (κs : _) (a : _) (z w : _) (e f : _) → day-put-records.Learnt κs a z e → day-put-records.Learnt κs a w f → (z ≡ w) × (e.1.1.1.1.1.0.now ≡ f.1.1.1.1.1.0.now)
day_put_records_determined κs a z w e f p q = (one p.0 q.0, one p.1 q.1)

pub day_put_places_determined : (κs : _) (a : _) (z w : _) (e f : _) → day-put-places.Learnt κs a z e → day-put-places.Learnt κs a w f → e.1.1.0.now ≡ f.1.1.0.now
day_put_places_determined κs a z w e f p q = one p q

pub day_move_bytes_determined : (κs : _) (a : _) (z w : _) (e f : _) → day-move-bytes.Learnt κs a z e → day-move-bytes.Learnt κs a w f → e.0.now ≡ f.0.now
day_move_bytes_determined κs a z w e f p q = one p q

pub day_put_index_determined : (κs : _) (a : _) (z w : _) (e f : _) → day-put-index.Learnt κs a z e → day-put-index.Learnt κs a w f → e.0.now ≡ f.0.now
day_put_index_determined κs a z w e f p q = one p q

pub day_put_grown_determined : (κs : _) (a : _) (z w : _) (e f : _) → day-put-grown.Learnt κs a z e → day-put-grown.Learnt κs a w f → e.0.now ≡ f.0.now
day_put_grown_determined κs a z w e f p q = one p q

pub day_append_determined : (κs : _) (a : _) (z w : _) (e f : _) → day-append.Learnt κs a z e → day-append.Learnt κs a w f → (z ≡ w) × (e.0.now ≡ f.0.now)
day_append_determined κs a z w e f p q =
    one_outcome z w e.0.now f.0.now _ (appending_no_3 a.0.now a.1.0 a.1.1.0 a.1.1.1.0.now a.1.1.1.1.0 a.1.1.1.1.1.0.now) p q

pub day_put_cleared_determined : (κs : _) (a : _) (z w : _) (e f : _) → day-put-cleared.Learnt κs a z e → day-put-cleared.Learnt κs a w f → (z ≡ w) × (e.0.now ≡ f.0.now)
day_put_cleared_determined κs a z w e f p q = (one p.0 q.0, one p.1 q.1)

pub day_clear_determined : (κs : _) (a : _) (z w : _) (e f : _) → day-clear.Learnt κs a z e → day-clear.Learnt κs a w f → (z ≡ w) × (e.0.now ≡ f.0.now)
day_clear_determined κs a z w e f p q = one_outcome z w e.0.now f.0.now _ (clearing_no_3 a.0.now a.1.0 a.1.1.0.now) p q

-- ---- What other programs link: `aez`

pub exported_seal_determined : (κs : _) (a : _) (z w : _) (e f : _) → exported-seal.Learnt κs a z e → exported-seal.Learnt κs a w f → (z ≡ w) × (e.1.1.1.1.0.now ≡ f.1.1.1.1.0.now)
exported_seal_determined κs a z w e f p q = (one p.0 q.0, one p.1 q.1)

pub exported_open_determined : (κs : _) (a : _) (z w : _) (e f : _) → exported-open.Learnt κs a z e → exported-open.Learnt κs a w f → (z ≡ w) × (e.1.1.1.1.0.now ≡ f.1.1.1.1.0.now)
exported_open_determined κs a z w e f p q = (one p.0 q.0, one p.1 q.1)

pub exported_seal_at_determined : (κs : _) (a : _) (z w : _) (e f : _) → exported-seal-at.Learnt κs a z e → exported-seal-at.Learnt κs a w f
    → (z ≡ w) × (e.1.1.1.1.0.now ≡ f.1.1.1.1.0.now) × (e.1.1.1.1.1.0.now ≡ f.1.1.1.1.1.0.now)
exported_seal_at_determined κs a z w e f p q = (one p.0 q.0, one p.1 q.1, one p.2 q.2)

pub exported_open_at_determined : (κs : _) (a : _) (z w : _) (e f : _) → exported-open-at.Learnt κs a z e → exported-open-at.Learnt κs a w f
    → (z ≡ w) × (e.1.1.1.1.0.now ≡ f.1.1.1.1.0.now) × (e.1.1.1.1.1.0.now ≡ f.1.1.1.1.1.0.now)
exported_open_at_determined κs a z w e f p q = (one p.0 q.0, one p.1 q.1, one p.2 q.2)

pub exported_header_read_determined : (κs : _) (a : _) (z w : _) (e f : _) → exported-header-read.Learnt κs a z e → exported-header-read.Learnt κs a w f
    → (z ≡ w) × (e.1.0.now ≡ f.1.0.now) × (e.1.1.0.now ≡ f.1.1.0.now)
exported_header_read_determined κs a z w e f p q = (one p.0 q.0, one p.1 q.1, one p.2 q.2)

pub exported_log_header_determined : (κs : _) (a : _) (z w : _) (e f : _) → exported-log-header.Learnt κs a z e → exported-log-header.Learnt κs a w f → (z ≡ w) × (e.1.1.1.1.0.now ≡ f.1.1.1.1.0.now)
exported_log_header_determined κs a z w e f p q = (one p.0 q.0, one p.1 q.1)

-- the number, then the size or the counts that are handed back, and the output
pub exported_day_write_determined : (κs : _) (a : _) (z w : _) (e f : _) → exported-day-write.Learnt κs a z e → exported-day-write.Learnt κs a w f
    → (z ≡ w) × (e.1.1.1.1.1.1.1.0.now ≡ f.1.1.1.1.1.1.1.0.now) × (e.1.1.1.1.1.1.0.now ≡ f.1.1.1.1.1.1.0.now)
exported_day_write_determined κs a z w e f p q = (one p.0 q.0, one p.1 q.1, one p.2 q.2)

pub exported_day_records_determined : (κs : _) (a : _) (z w : _) (e f : _) → exported-day-records.Learnt κs a z e → exported-day-records.Learnt κs a w f
    → (z ≡ w) × (e.1.0.now ≡ f.1.0.now)
exported_day_records_determined κs a z w e f p q = (one p.0 q.0, one p.1 q.1)

pub exported_day_open_determined : (κs : _) (a : _) (z w : _) (e f : _) → exported-day-open.Learnt κs a z e → exported-day-open.Learnt κs a w f
    → (z ≡ w) × (e.1.1.1.1.0.now ≡ f.1.1.1.1.0.now) × (e.1.1.1.0.now ≡ f.1.1.1.0.now)
exported_day_open_determined κs a z w e f p q = (one p.0 q.0, one p.1 q.1, one p.2 q.2)

pub exported_day_list_determined : (κs : _) (a : _) (z w : _) (e f : _) → exported-day-list.Learnt κs a z e → exported-day-list.Learnt κs a w f
    → (z ≡ w) × (e.1.1.0.now ≡ f.1.1.0.now) × (e.1.1.1.0.now ≡ f.1.1.1.0.now) × (e.1.0.now ≡ f.1.0.now)
exported_day_list_determined κs a z w e f p q = (one p.0 q.0, one p.1 q.1, one p.2 q.2, one p.3 q.3)

pub exported_day_clear_determined : (κs : _) (a : _) (z w : _) (e f : _) → exported-day-clear.Learnt κs a z e → exported-day-clear.Learnt κs a w f
    → (z ≡ w) × (e.1.1.1.0.now ≡ f.1.1.1.0.now) × (e.0.now ≡ f.0.now)
exported_day_clear_determined κs a z w e f p q = (one p.0 q.0, one p.1 q.1, one p.2 q.2)

pub exported_day_append_determined : (κs : _) (a : _) (z w : _) (e f : _) → exported-day-append.Learnt κs a z e → exported-day-append.Learnt κs a w f
    → (z ≡ w) × (e.1.1.1.1.1.1.0.now ≡ f.1.1.1.1.1.1.0.now) × (e.0.now ≡ f.0.now)
exported_day_append_determined κs a z w e f p q = (one p.0 q.0, one p.1 q.1, one p.2 q.2)
