-- `day_steps::record_at` meets its contract: each return is one case of the definition.
use Rattle.std.proofs.Common.{◌≡◌, ◌+◌, ◌-◌, ◌<◌, ◌≤◌, ℕ, length, take, drop, refl, ap, sym, subst, arith}
use Rattle.std.specs.Prelude.{Some, None}
use Rattle.paper.specs.Strings.{Bytes}
use Rattle.paper.specs.DayFile.{value}
use Rattle.day_steps.specs.declared.Entry.{Entry}
use Rattle.day_steps.specs.Walks.{entry_at, RecordStep}
use Rattle.day_steps.proofs.Steps.{record_few, record_long, record_unnamed, record_stretched, record_good}
use Rattle.day_steps.proofs.record_at.Goals as goal
use Rattle.day_steps.proofs.record_at.Goals.{else-e-file-via-then-e-file+then-e-headers+else-e-le-LONGEST_STRETCH, else-e-file-via-then-e-file+else-e-headers, else-e-file-via-else-e-file}

-- the cases, of the fields e that were read at a place
module _ (f : Bytes) (headers at : ℕ) (inside : at ≤ length f) (seven : 7 ≤ length f - at) (e : Entry) (is : e ≡ entry_at f at) where
  long : length f < e.end → RecordStep None f headers at
  long p = record_long f headers at inside seven (omega (arith, ap (λ (x : Entry). x.end) is))

  module _ (fits : e.end ≤ length f) where
    inside_file : at + 7 + value (take 4 (drop (at + 3) f)) ≤ length f
    inside_file = omega (arith, ap (λ (x : Entry). x.end) is)

    unnamed : headers ≤ e.header → RecordStep None f headers at
    unnamed p = record_unnamed f headers at inside seven inside_file (omega (arith, ap (λ (x : Entry). x.header) is))

    stretched : 64 < e.stretch → RecordStep None f headers at
    stretched p = record_stretched f headers at inside seven inside_file (omega (arith, ap (λ (x : Entry). x.stretch) is))

    good : e.header < 65536 → e.header < headers → e.stretch ≤ 64 → RecordStep (Some e) f headers at
    good p q r =
        subst (λ (x : Entry). RecordStep (Some x) f headers at) (sym is)
        (refl, inside_file, record_good f headers at inside seven inside_file (omega (arith, ap (λ (x : Entry). x.header) is)) (omega (arith, ap (λ (x : Entry). x.header) is)) (omega (arith, ap (λ (x : Entry). x.stretch) is)))

pub returns-then-file-at-lt7 : goal.returns-then-file-at-lt7
returns-then-file-at-lt7 c = record_few c.args.file.now c.args.headers c.args.at c.requires.0 (omega arith)

pub returns-then-e-le-LONGEST_STRETCH : goal.returns-then-e-le-LONGEST_STRETCH
returns-then-e-le-LONGEST_STRETCH c =
    good c.args.file.now c.args.headers c.args.at c.requires.0 (omega arith) c.entry_at-e.result c.entry_at-e.ensures.0 (omega arith) c.entry_at-e.ensures.1 (omega arith) (omega arith)

pub returns-else-e-file : goal.returns-else-e-file
returns-else-e-file c =
    let f = c.args.file.now in
    let e = c.entry_at-e.result in
    elim c.else-e-file.branch [
      | else-e-file-via-then-e-file+then-e-headers+else-e-le-LONGEST_STRETCH w ↦
          stretched f c.args.headers c.args.at c.requires.0 (omega arith) e c.entry_at-e.ensures.0 (omega arith) (omega arith)
      | else-e-file-via-then-e-file+else-e-headers w ↦ unnamed f c.args.headers c.args.at c.requires.0 (omega arith) e c.entry_at-e.ensures.0 (omega arith) (omega arith)
      | else-e-file-via-else-e-file w ↦ long f c.args.headers c.args.at c.requires.0 (omega arith) e c.entry_at-e.ensures.0 (omega arith)
    ]
