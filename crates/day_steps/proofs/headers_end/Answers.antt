-- `day_steps::headers_end` meets its contract.
use Rattle.std.proofs.Common.{◌≡◌, ◌∙◌, ◌+◌, ◌-◌, ◌++◌, ◌∷◌, [], ℕ, ap, take, drop, arith}
use Rattle.paper.specs.DayFile.{read_headers}
use Rattle.day_steps.proofs.Sections.{ahead, headers_turn, headers_stop, headers_last}
use Rattle.day_steps.proofs.headers_end.Goals as goal

pub returns-in_err-at : goal.returns-in_err-at
returns-in_err-at c =
    let l = c.loop.invariant.read in
    rw c.from_residual.ensures (l.1 ∙ headers_stop c.args.file.now (c.args.headers - c.loop.counter) c.loop.at (omega arith) l.0 c.in_err-at.ensures)

pub loop-preserved : goal.loop-preserved
loop-preserved c =
    let l = c.loop.invariant.read in
    let f = c.args.file.now in
    let p = c.in_ok-at.field-0 in
    let passed = l.0 ++ take (p.end - p.start) (drop p.start f) ∷ [] in
    let fewer : c.args.headers - c.loop.counter - 1 ≡ c.args.headers - (c.loop.counter + 1) = omega arith in
    record {
      inside = c.in_ok-at.ensures.1;
      read = (
        passed,
        l.1
            ∙ headers_turn f (c.args.headers - c.loop.counter) c.loop.at (omega arith) l.0 p c.in_ok-at.ensures
            ∙ ap (λ (n : ℕ). ahead passed (read_headers n (drop p.end f))) fewer,
      );
    }

pub returns : goal.returns
returns c =
    let l = c.loop.invariant.read in
    (c.loop.invariant.inside, (l.0 ++ [], l.1 ∙ headers_last c.args.file.now (c.args.headers - c.loop.counter) c.loop.at l.0 (omega arith)))
