use Rattle.std.proofs.Common.{◌≡◌, ◌<◌, ap, ap₂, arith, get_or, length, List, ℕ, sym, take, ◌∙◌}
use Rattle.std.proofs.lemmas.List.{get_or-take}
use lib.ListN.{replicate}
use lib.Seq.{length-take-le}
use Rattle.paper.specs.Strings.{Bytes, ◌⊕◌}
use Rattle.paper.specs.Section7.{AES4}
use Rattle.aes.specs.Steps.{keys_of}
use Rattle.columns.specs.Columns.{block_of}
use Rattle.tbc.proofs.Masks.{first_masked}
use Rattle.strings.specs.Waiting.{added_up}
use Rattle.strings.proofs.Waits.{added_none, added_more}
use Rattle.strings.proofs.one_by_one.Goals as goal

pub loop-x-init : goal.loop-x-init
loop-x-init c = sym (added_none (keys_of c.keys0-keys.result) c.args.g.now)

pub loop-x-preserved : goal.loop-x-preserved
loop-x-preserved c =
    let a = c.args in
    let i = c.loop-x.x-index in
    let keys = keys_of c.keys0-keys.result in
    let long = length-take-le a.n a.g.now (omega arith) in
    let within : i < a.n = omega (arith, long, c.loop-x-test.true) in
    let x = c.to_block.ensures ∙ ap block_of (get_or-take a.n a.g.now i _ within) in
    c.xor-more.ensures
    ∙ ap₂ ◌⊕◌ c.loop-x.invariant (c.aes.ensures ∙ ap (λ (X : Bytes). AES4 keys X) x)
    ∙ sym (added_more keys a.g.now i)

pub returns : goal.returns
returns c =
    let a = c.args in
    let long = length-take-le a.n a.g.now (omega arith) in
    let all : c.loop-x.x-index ≡ a.n = omega (arith, long, c.loop-x-test.false, c.loop-x.auto.x-index-end) in
    c.loop-x.invariant
    ∙ ap₂ (λ (keys : List Bytes) (n : ℕ). added_up keys a.g.now n) (ap keys_of c.keys0-keys.ensures ∙ first_masked a.k (replicate 4 0)) all
