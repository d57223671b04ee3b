-- Byte i is byte i mod 4 of column i / 4.
use Rattle.std.proofs.Common.{rules, ℕ, get_or, ◌/◌, ◌%◌}
use Rattle.std.specs.Int.{w32, to_be_bytes}
use Rattle.columns.proofs.Made.{made_table}
use Rattle.columns.proofs.to_block.Goals as goal

pub returns : goal.returns
returns c =
    let s = c.args.s in
    made_table _ (λ (i : ℕ). get_or (to_be_bytes w32 (get_or s (i / 4) 0)) (i % 4) 0) _ (λ i r q k. search rules) c.from_fn.ensures.items
