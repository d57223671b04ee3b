-- The full blocks are in the sum, and after them the last one, where it is short or empty.
use Rattle.std.proofs.Common.{◌≡◌, ◌+◌, ◌-◌, ◌*◌, ◌/◌, ℕ, ap, arith, drop, length, length-drop, subst, take, ◌∙◌}
use lib.Seq.{take_all}
use Rattle.paper.specs.Strings.{◌⊕◌, sum}
use Rattle.paper.specs.Section7.{◌·◌}
use Rattle.paper.specs.Figure6 as figure6
use Rattle.laws.proofs.KeyBlocks.{times_block}
use Rattle.columns.specs.Columns.{columns_of, block_of}
use Rattle.columns.proofs.Conversions.{made}
use Rattle.pairs.specs.Meaning.{first}
use Rattle.pairs.specs.declared.Pair.{Pair}
use Rattle.tbc.specs.Meaning.{base}
use Rattle.key.specs.Meaning.{blocks}
use Rattle.key.proofs.Keys.{key_bytes, has_blocks, of_j}
use Rattle.strings.specs.Waiting.{full_term, short_term}
use Rattle.strings.specs.Sums.{so_far}
use Rattle.strings.proofs.Rows.{cut_string, short_end, whole_string}
use Rattle.strings.proofs.Sum.add_string.Goals as goal

pub add_full-requires : goal.add_full-requires
add_full-requires c =
    let a = c.args in
    (c.requires.4, of_j a.k a.b a.m.now (has_blocks a.k _ c.well_formed.1.0 a.b c.requires.0) c.requires.1)

pub returns-then-empty : goal.returns-then-empty
returns-then-empty c =
    let a = c.args in
    let K = blocks a.k in
    let t = a.t.now in
    let M = block_of c.row_mask-mask.result in
    let is_base = has_blocks a.k _ c.well_formed.1.0 a.b c.requires.0 in
    let row : first c.string.result.row - 2 ≡ a.i = omega (arith, ap (λ (p : Pair). first p.row) c.string.ensures) in
    let mask = made (times_block (a.i * 8) (key_bytes a.k _ c.well_formed.1.0).J) (c.row_mask-mask.ensures ∙ ap (λ (n : ℕ). columns_of ((n * 8) · K.J)) row) in
    let full =
    subst (λ (K : figure6.Key). so_far K c.add_full.new.self ≡ so_far K a.self.now ⊕ sum (length t / 16) (full_term K M t)) is_base c.add_full.ensures in
    let n : ℕ = length t / 16 * 16 in
    let last = take (length t - n) (drop n t) in
    let rest : last ≡ drop n t = take_all (length t - n) (drop n t) (simp length-drop (omega arith)) in
    let short =
    subst (λ (K : figure6.Key). so_far K c.add_short.new.self ≡ so_far K c.add_full.new.self ⊕ short_term K M last) is_base c.add_short.ensures in
    cut_string K a.i c.requires.2 M mask t _ _ full (short_end (length t) c.then-empty.either) last _ rest short

pub returns-else-not-whole : goal.returns-else-not-whole
returns-else-not-whole c =
    let a = c.args in
    let K = blocks a.k in
    let t = a.t.now in
    let M = block_of c.row_mask-mask.result in
    let is_base = has_blocks a.k _ c.well_formed.1.0 a.b c.requires.0 in
    let row : first c.string.result.row - 2 ≡ a.i = omega (arith, ap (λ (p : Pair). first p.row) c.string.ensures) in
    let mask = made (times_block (a.i * 8) (key_bytes a.k _ c.well_formed.1.0).J) (c.row_mask-mask.ensures ∙ ap (λ (n : ℕ). columns_of ((n * 8) · K.J)) row) in
    let full =
    subst (λ (K : figure6.Key). so_far K c.add_full.new.self ≡ so_far K a.self.now ⊕ sum (length t / 16) (full_term K M t)) is_base c.add_full.ensures in
    whole_string K a.i c.requires.2 M mask t _ _ full c.if-not-whole.false c.if-empty.false
