use Rattle.std.proofs.Common.{sym, ◌∙◌, ◌≡◌, ◌-◌, length, take, drop}
use borrow.Author.Rules.{rules}
use borrow.Author.Tests.{eqb-true, eqb-false}
use lib.ListN.{replicate}
use Rattle.paper.specs.Strings.{Bytes}
use Rattle.paper.specs.Figure6.{E}
use Rattle.key.specs.Meaning.{blocks}
use Rattle.cipher.proofs.Branches.{put_first, seals_none, seals_some}
use Rattle.cipher.proofs.encrypt.Goals as goal

pub returns-then-is_empty : goal.returns-then-is_empty
returns-then-is_empty c =
    let a = c.args in
    seals_none (E (blocks a.k)) a.delta a.text.now a.out.now c.prf.new.out (eqb-true (length a.text.now) 0 (sym c.is_empty.ensures ∙ c.if-is_empty.true)) c.prf.ensures

pub returns-else-is_empty : goal.returns-else-is_empty
returns-else-is_empty c =
    let a = c.args in
    let M = a.text.now in
    let mid : Bytes = c.copy.new.s in
    let copied = put_first M a.out.now mid c.copy.ensures in
    let zeros : c.fill.new.self ≡ replicate (length (take (length mid - length M) (drop (length M) mid))) 0 = search rules in
    seals_some (E (blocks a.k)) a.delta M a.out.now mid c.fill.new.self c.cipher_in_place.new.s c.requires.0 (eqb-false (length M) 0 (sym c.is_empty.ensures ∙ c.if-is_empty.false)) copied zeros c.cipher_in_place.ensures
