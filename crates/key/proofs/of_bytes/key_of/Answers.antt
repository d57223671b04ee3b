-- Each of the three is a block of the string.
use Rattle.std.proofs.Common.{ℕ, List, length, drop, ◌∙◌, arith, length-drop}
use lib.Seq.{take_all}
use Rattle.paper.specs.Figure6.{key_of}
use Rattle.key.proofs.Keys.{all_kept}
use Rattle.key.proofs.of_bytes.key_of.Goals as goal

pub returns : goal.returns
unfolding key_of
returns c =
    let s : List ℕ = c.args.s.now in
    let first = c.record_of.ensures.0 ∙ c.load.ensures in
    let second = c.record_of.ensures.1 ∙ c.load-2.ensures in
    let third = c.record_of.ensures.2 ∙ c.load-3.ensures ∙ take_all 16 (drop 32 s) (simp length-drop (omega arith)) in
    (λ i. record { I = first i; J = second i; L = third i }, all_kept c.record_of.result)
