use Rattle.std.proofs.Common.{ℕ, ◌≡◌, ◌+◌, ◌-◌, ◌*◌, length, refl, ap, ◌∙◌, arith}
use Rattle.paper.specs.Strings.{Digits, Block}
use Rattle.paper.specs.Figure6 as figure6
use Rattle.paper.specs.Figure6.{E}
use Rattle.paper.specs.Figure5.{pairs, rest, core}
use Rattle.laws.proofs.Digits.{below_of}
use Rattle.laws.proofs.KeyBlocks.{E_block}
use Rattle.laws.proofs.CoreParts.{cut}
use Rattle.block.proofs.Arrays.{array_bytes}
use Rattle.tbc.specs.Meaning.{base}
use Rattle.tbc.proofs.Keys.{base_bytes}
use Rattle.key.proofs.Keys.{has_blocks, of_j}
use Rattle.wide.specs.Ways.{first_of, second_of}
use Rattle.wide.proofs.Parts.{put_length}
use Rattle.wide.proofs.CoreWhole.{together}
use Rattle.wide.proofs.core_in_place.Goals as goal

-- the multiples that are lent are those of the base
pub invariant_of-setting : goal.invariant_of-setting
invariant_of-setting c = record {
  of_j = of_j c.args.k c.base-b.result c.multiples-m.result (has_blocks c.args.k _ c.well_formed.0 c.base-b.result c.base-b.ensures) c.multiples-m.ensures;
}

pub all_pairs-first-requires : goal.all_pairs-first-requires
all_pairs-first-requires c =
    let of = of_j c.args.k c.base-b.result c.multiples-m.result (has_blocks c.args.k _ c.well_formed.0 c.base-b.result c.base-b.ensures) c.multiples-m.ensures in
    (c.requires.0, c.requires.1, of, c.keys_for-keys.ensures.0)

pub all_pairs-second-requires : goal.all_pairs-second-requires
all_pairs-second-requires c =
    let M = c.args.s.now in
    let at : ℕ = 32 * pairs (length M) in
    let end : ℕ = at + rest (length M) in
    let whole : end + 32 ≡ length M = cut (length M) c.requires.0 in
    let p = c.all_pairs-first.new.s in
    let same : length p ≡ length M = c.all_pairs-first.auto.s in
    let long = put_length p c.mask_uv.new.uv at (end - at) (omega (arith, whole, same)) c.mask_uv.auto.uv ∙ same in
    let of = of_j c.args.k c.base-b.result c.multiples-m.result (has_blocks c.args.k _ c.well_formed.0 c.base-b.result c.base-b.ensures) c.multiples-m.ensures in
    (omega (arith, long, c.requires.0), omega (arith, long, c.requires.1), of, λ large. c.keys_for-keys.ensures.0 (omega (arith, long)))

pub returns : goal.returns
returns c =
    let a = c.args in
    let M = a.s.now in
    let at : ℕ = 32 * pairs (length M) in
    let end : ℕ = at + rest (length M) in
    let whole : end + 32 ≡ length M = cut (length M) c.requires.0 in
    let b = c.base-b.result in
    let block : Block a.delta = array_bytes 16 _ _ c.well_formed.1.0 in
    let bytes : Digits 8 (length M) M = record { len = refl; low = below_of 256 M (λ i h. omega (arith, c.slice_known-1.given i)) } in
    let k : ℕ = end - at in
    let n : ℕ = length M - end in
    let is_k : k ≡ rest (length M) = omega arith in
    let is_n : n ≡ 32 = omega (arith, whole) in
    let sums = c.middle-sums in
    together (E (base b)) (E_block (base_bytes b)) a.delta block (first_of a.way) (second_of a.way) M c.requires.0 bytes k n is_k is_n
    c.all_pairs-first.result c.all_pairs-first.new.s c.with_uv-total.result sums.result.sx sums.result.sy sums.result.s
    c.mask_uv.new.uv c.all_pairs-second.result c.all_pairs-second.new.s c.with_uv-all.result c.put_last.new.last
    c.all_pairs-first.ensures.0 c.all_pairs-first.ensures.1 c.with_uv-total.ensures sums.ensures.0 sums.ensures.1 sums.ensures.2
    c.mask_uv.ensures c.all_pairs-second.ensures.0 c.all_pairs-second.ensures.1 c.with_uv-all.ensures c.put_last.ensures
    ∙ ap (λ (K : figure6.Key). core (E K) a.delta (first_of a.way) (second_of a.way) M) (has_blocks a.k _ c.well_formed.0 b c.base-b.ensures)
