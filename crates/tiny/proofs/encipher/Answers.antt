-- The turns are those of Figure 5 on half-bytes, and the last step comes after them.
use Rattle.std.proofs.Common.{ℕ, List, ◌*◌, ◌≡◌, ◌≤◌, ap, length, refl, rules, sym, arith, ◌∙◌}
use Rattle.paper.specs.Strings.{Block, Digits}
use Rattle.paper.specs.Figure6 as figure6
use Rattle.paper.specs.Figure6.{E}
use Rattle.paper.specs.Figure5.{tiny_rounds, encipher_tiny}
use Rattle.laws.proofs.Counts.{up}
use Rattle.laws.proofs.Digits.{below_of}
use Rattle.laws.proofs.KeyBlocks.{E_block}
use Rattle.block.proofs.Arrays.{array_bytes}
use Rattle.columns.specs.Columns.{columns_of, block_of}
use Rattle.columns.proofs.Conversions.{made}
use Rattle.tbc.specs.Meaning.{base}
use Rattle.tbc.proofs.Keys.{base_bytes}
use Rattle.key.specs.Meaning.{blocks}
use Rattle.key.proofs.Keys.{has_blocks, of_j}
use Rattle.aes.specs.Steps.{keys_of}
use Rattle.halves.specs.Blocks.{front, blocks_of}
use Rattle.halves.proofs.PackedHalves.{front_block}
use Rattle.tiny.specs.OnBytes.{last_bytes}
use Rattle.tiny.proofs.OnHalves.{encipher_tiny_half_bytes}
use Rattle.tiny.proofs.AllTurns.{up_through, all_turns_lem}
use Rattle.tiny.proofs.Under.{under}
use Rattle.tiny.proofs.encipher.Goals as goal

pub keys_for-keys-requires : goal.keys_for-keys-requires
keys_for-keys-requires c =
    let a = c.args in
    let b = c.base-b in
    let m = c.multiples-m in
    (c.requires.1, of_j a.k b.result m.result (has_blocks a.k _ c.well_formed.0 b.result b.ensures) m.ensures)

pub last_step-requires : goal.last_step-requires
last_step-requires c =
    let a = c.args in
    let b = c.base-b in
    let m = c.multiples-m in
    (search rules, of_j a.k b.result m.result (has_blocks a.k _ c.well_formed.0 b.result b.ensures) m.ensures)

pub returns : goal.returns
returns c =
    let a = c.args in
    let b = c.base-b.result in
    let f = E (base b) in
    let f_block = E_block (base_bytes b) in
    let M = a.s.now in
    let n : ℕ = length M in
    let some = c.requires.0 in
    let few = c.requires.1 in
    let delta_block : Block a.delta = array_bytes 16 _ _ c.well_formed.1.0 in
    let M_bytes : Digits 8 n M = record { len = refl; low = below_of 256 M (λ i h. search rules) } in
    let bits : block_of c.front-bits.result ≡ front n = made (front_block n (omega arith)) c.front-bits.ensures in
    let keys = c.keys_for-keys in
    let Ks = keys_of keys.result in
    let rounds = tiny_rounds (8 * n) in
    c.last_step.ensures
    ∙ ap (last_bytes f a.delta)
    (all_turns_lem f f_block a.delta delta_block n few Ks (under b n few delta_block keys.result keys.ensures) bits (up rounds)
    (blocks_of c.halves_of.result) (blocks_of c.turns_up-t.result) M_bytes c.halves_of.ensures
    (c.turns_up-t.ensures ∙ up_through Ks (block_of c.front-bits.result) rounds (blocks_of c.halves_of.result))
    c.put_joined.ensures)
    ∙ sym (encipher_tiny_half_bytes f f_block a.delta delta_block n some few M M_bytes)
    ∙ ap (λ (K : figure6.Key). encipher_tiny (E K) a.delta M) (has_blocks a.k _ c.well_formed.0 b c.base-b.ensures)
