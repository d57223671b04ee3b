-- `day::check` meets its contract: each return is one case of the definition.
use Rattle.std.proofs.Common.{◌∙◌, sym, arith}
use Rattle.paper.specs.Strings.{Below}
use Rattle.laws.proofs.Digits.{below_of}
use Rattle.day.proofs.Whole.{file_few, file_long, headers_bad, records_few, file_reads, file_bad, too_many}
use Rattle.day.proofs.check.Goals as goal
use Rattle.day.proofs.check.Goals.{else-records-file-via-then-records-file+else-records_right, else-records-file-via-else-records-file, then-file-lt4-via-then-file-lt4, then-file-lt4-via-else-file-lt4+then-file-gt-LONGEST_FILE}

pub returns-then-file-lt4 : goal.returns-then-file-lt4
returns-then-file-lt4 c =
    elim c.then-file-lt4.branch [
      | then-file-lt4-via-then-file-lt4 w ↦ file_few c.args.file.now (omega arith)
      | then-file-lt4-via-else-file-lt4+then-file-gt-LONGEST_FILE w ↦ file_long c.args.file.now (omega arith)
    ]

pub returns-in_err-end : goal.returns-in_err-end
returns-in_err-end c =
    let low : Below 256 c.args.file.now = below_of 256 c.args.file.now (λ i p. omega (arith, c.type_inv.file i)) in
    c.from_residual.ensures ∙ headers_bad c.args.file.now low (omega arith) (omega arith) c.read-headers.result c.read-headers.ensures.value c.in_err-end.ensures

pub returns-then-file-end-lt4 : goal.returns-then-file-end-lt4
returns-then-file-end-lt4 c =
    let low : Below 256 c.args.file.now = below_of 256 c.args.file.now (λ i p. omega (arith, c.type_inv.file i)) in
    let e = c.in_ok-end.ensures in
    records_few c.args.file.now low (omega arith) (omega arith) c.read-headers.result c.read-headers.ensures.value c.in_ok-end.end e.0 e.1.0 e.1.1 (omega arith)

pub returns-then-records_right : goal.returns-then-records_right
returns-then-records_right c =
    let low : Below 256 c.args.file.now = below_of 256 c.args.file.now (λ i p. omega (arith, c.type_inv.file i)) in
    let e = c.in_ok-end.ensures in
    file_reads c.args.file.now low (omega arith) (omega arith) c.read-headers.result c.read-headers.ensures.value c.in_ok-end.end e.0 e.1.0 e.1.1
    (omega arith) c.read-records.result c.read-records.ensures.value (sym c.records_right.ensures ∙ c.if-records_right.true)

pub returns-else-records-file : goal.returns-else-records-file
returns-else-records-file c =
    let low : Below 256 c.args.file.now = below_of 256 c.args.file.now (λ i p. omega (arith, c.type_inv.file i)) in
    let e = c.in_ok-end.ensures in
    elim c.else-records-file.branch [
      | else-records-file-via-then-records-file+else-records_right w ↦
          file_bad c.args.file.now low (omega arith) (omega arith) c.read-headers.result c.read-headers.ensures.value c.in_ok-end.end e.0 e.1.0 e.1.1
          (omega arith) c.read-records.result c.read-records.ensures.value (sym w.records_right.ensures ∙ w.if-records_right.false)
      | else-records-file-via-else-records-file w ↦
          too_many c.args.file.now low (omega arith) (omega arith) c.read-headers.result c.read-headers.ensures.value c.in_ok-end.end e.0 e.1.0 e.1.1
          (omega arith) c.read-records.result c.read-records.ensures.value (omega arith)
    ]
