-- The string over the front of 16 zeros, and 128 stored after it.
use Rattle.std.proofs.Common.{ap, ◌++◌, List, ℕ, length, drop, replicate}
use Rattle.laws.proofs.Padding.{mark_over}
use Rattle.paper.specs.Strings.{pad10*}
use Rattle.block.proofs.pad.Goals as goal

pub returns : goal.returns
unfolding pad10*
returns c = let s = c.args.s.now in mark_over 16 128 s _ c.requires (ap (λ (l : List ℕ). l ++ drop (length s) (replicate 16 0)) c.copy_from_slice.ensures.after)
