-- The last step comes first, and the turns of Figure 5 count down.
use Rattle.std.proofs.Common.{ℕ, List, ◌*◌, ◌≡◌, ◌≤◌, ap, length, refl, rules, sym, arith, ◌∙◌}
use mathlib.Core.Path.{subst⁻¹}
use Rattle.paper.specs.Strings.{Block, Digits}
use Rattle.paper.specs.Figure6 as figure6
use Rattle.paper.specs.Figure6.{E}
use Rattle.paper.specs.Figure5.{tiny_rounds, decipher_tiny}
use Rattle.laws.proofs.Counts.{down}
use Rattle.laws.proofs.Digits.{below_of}
use Rattle.laws.proofs.KeyBlocks.{E_block}
use Rattle.block.proofs.Arrays.{array_bytes}
use Rattle.columns.specs.Columns.{columns_of, block_of}
use Rattle.columns.proofs.Conversions.{made}
use Rattle.tbc.specs.Meaning.{base}
use Rattle.tbc.proofs.Keys.{base_bytes}
use Rattle.key.specs.Meaning.{blocks}
use Rattle.key.proofs.Keys.{has_blocks, of_j}
use Rattle.aes.specs.Steps.{keys_of}
use Rattle.halves.specs.Blocks.{front, blocks_of}
use Rattle.halves.proofs.PackedHalves.{front_block}
use Rattle.tiny.specs.OnBytes.{last_bytes}
use Rattle.tiny.proofs.LastBits.{last_bytes_digits}
use Rattle.tiny.proofs.OnHalves.{half_turns, decipher_tiny_half_bytes}
use Rattle.tiny.proofs.AllTurns.{down_through, all_turns_lem}
use Rattle.tiny.proofs.Under.{under}
use Rattle.tiny.proofs.decipher.Goals as goal

pub last_step-requires : goal.last_step-requires
last_step-requires c =
    let a = c.args in
    let b = c.base-b in
    let m = c.multiples-m in
    (c.requires.0, of_j a.k b.result m.result (has_blocks a.k _ c.well_formed.0 b.result b.ensures) m.ensures)

pub keys_for-keys-requires : goal.keys_for-keys-requires
keys_for-keys-requires c =
    let a = c.args in
    let b = c.base-b in
    let m = c.multiples-m in
    (c.requires.1, of_j a.k b.result m.result (has_blocks a.k _ c.well_formed.0 b.result b.ensures) m.ensures)

pub halves_of-requires : goal.halves_of-requires
halves_of-requires c =
    let same : length c.args.s.now ≡ length c.last_step.new.s = search rules in
    (omega arith, c.front-bits.ensures ∙ ap (λ (k : ℕ). columns_of (front k)) same)

pub returns : goal.returns
returns c =
    let a = c.args in
    let b = c.base-b.result in
    let f = E (base b) in
    let f_block = E_block (base_bytes b) in
    let M = a.s.now in
    let n : ℕ = length M in
    let some = c.requires.0 in
    let few = c.requires.1 in
    let delta_block : Block a.delta = array_bytes 16 _ _ c.well_formed.1.0 in
    let M_bytes : Digits 8 n M = record { len = refl; low = below_of 256 M (λ i h. search rules) } in
    let C_bytes : Digits 8 n (last_bytes f a.delta M) = last_bytes_digits f f_block a.delta delta_block n some M_bytes in
    let bits : block_of c.front-bits.result ≡ front n = made (front_block n (omega arith)) c.front-bits.ensures in
    let keys = c.keys_for-keys in
    let Ks = keys_of keys.result in
    let rounds = tiny_rounds (8 * n) in
    all_turns_lem f f_block a.delta delta_block n few Ks (under b n few delta_block keys.result keys.ensures) bits (down rounds)
    (blocks_of c.halves_of.result) (blocks_of c.turns_down-t.result) (subst⁻¹ (Digits 8 n) c.last_step.ensures C_bytes) c.halves_of.ensures
    (c.turns_down-t.ensures ∙ down_through Ks (block_of c.front-bits.result) rounds (blocks_of c.halves_of.result))
    c.put_joined.ensures
    ∙ ap (half_turns f a.delta n (down rounds)) c.last_step.ensures
    ∙ sym (decipher_tiny_half_bytes f f_block a.delta delta_block n some few M M_bytes)
    ∙ ap (λ (K : figure6.Key). decipher_tiny (E K) a.delta M) (has_blocks a.k _ c.well_formed.0 b c.base-b.ensures)
