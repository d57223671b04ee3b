-- A string that is too long, or whose locale is refused, is no pause whether it opens or not.
use Rattle.std.proofs.Common.{◌∙◌, sym, length, arith}
use Rattle.ledger.specs.declared.TheConstants.{LONGEST}
use Rattle.ledger.proofs.Bytes.{below_256}
use Rattle.ledger.proofs.OpenedTexts.{too_long_lem}
use Rattle.ledger.proofs.Taken.{none_marked, some_marked, take_zeros}
use Rattle.ledger.proofs.pause_of.Goals as goal

pub returns-then-n-gt-LONGEST : goal.returns-then-n-gt-LONGEST
returns-then-n-gt-LONGEST c =
    let a = c.args in
    too_long_lem a.key.now a.header.now a.stretch a.sealed.now (below_256 a.key.now c.type_inv.key) (below_256 a.header.now c.type_inv.header) (below_256 a.sealed.now c.type_inv.sealed) (omega arith)

pub returns-in_err-mark : goal.returns-in_err-mark
returns-in_err-mark c =
    let a = c.args in
    let none = none_marked a.key.now a.header.now a.stretch a.sealed.now c.header_mark.result c.header_mark.ensures (sym c.ok.ensures.value ∙ c.in_err-mark.was) in
    c.from_residual.ensures ∙ none

pub open_in-requires : goal.open_in-requires
open_in-requires c = (
  some_marked c.args.header.now c.in_ok-mark.mark c.header_mark.result c.header_mark.ensures (sym c.ok.ensures.value ∙ c.in_ok-mark.was),
  take_zeros (length c.args.sealed.now) LONGEST (omega arith),
)
