-- `slices::copy`: one byte more in each turn.
use Rattle.std.proofs.Common.{◌≡◌, ◌+◌, ◌++◌, refl, sym, ap, ◌∙◌, length, drop, take, get_or, set, length-set, arith}
use native.Mathlib.Numerals.{add-one}
use lib.Seq.{paste, paste-zero, paste-suc, take_all}
use Rattle.paper.specs.Strings.{Bytes}
use Rattle.slices.proofs.copy.Goals as goal

pub loop-i-init : goal.loop-i-init
loop-i-init c = record { long = refl; copied = paste-zero c.args.s.now c.args.at c.args.t.now }

pub loop-i-preserved : goal.loop-i-preserved
loop-i-preserved c =
    let a = c.args in
    let l = c.loop-i in
    record {
      long = simp length-set l.invariant.long;
      copied = (λ j. set (l.invariant.copied j) (a.at + l.i) (get_or a.t.now l.i 0))
          ∙ paste-suc a.s.now a.at a.t.now l.i 0 (omega arith) (omega arith)
          ∙ ap (paste a.s.now a.at a.t.now) (sym (add-one l.i));
    }

pub returns : goal.returns
returns c =
    let a = c.args in
    let all : c.loop-i.i ≡ length a.t.now = omega arith in
    c.loop-i.invariant.copied
    ∙ ap (paste a.s.now a.at a.t.now) all
    ∙ ap (λ (w : Bytes). take a.at a.s.now ++ w ++ drop (a.at + length a.t.now) a.s.now) (take_all (length a.t.now) a.t.now (omega arith))
