-- THE EXPORTS. What each of them promises is what the function of `aez` of the same name promises, for the same arguments, result and
-- buffers at exit: so each theorem of `audit` on a function of `aez` is one on its export. `Learnt` is a function's contract as its callers
-- have it: the checker makes it from the `ensures` in the source. κs are lifetimes, a the arguments, z the result, e the parameters at exit.
use mathlib.Core.Path.{◌≡◌, refl}
use Rattle.aez.proofs.aez_seal.Reads as aez_seal
use Rattle.aez.proofs.aez_open.Reads as aez_open
use Rattle.aez.proofs.aez_seal_at.Reads as aez_seal_at
use Rattle.aez.proofs.aez_open_at.Reads as aez_open_at
use Rattle.aez.proofs.aez_header_read.Reads as aez_header_read
use Rattle.aez.proofs.aez_log_header.Reads as aez_log_header
use Rattle.aez.proofs.aez_day_write.Reads as aez_day_write
use Rattle.aez.proofs.aez_day_records.Reads as aez_day_records
use Rattle.aez.proofs.aez_day_open.Reads as aez_day_open
use Rattle.aez.proofs.aez_day_list.Reads as aez_day_list
use Rattle.aez.proofs.aez_pause.Reads as aez_pause
use Rattle.aez.proofs.aez_report.Reads as aez_report
use Rattle.aez.proofs.aez_report_figures.Reads as aez_report_figures
use Rattle.aez.proofs.aez_day_clear.Reads as aez_day_clear
use Rattle.aez.proofs.aez_day_append.Reads as aez_day_append
use Rattle.aez_c.proofs.aez_seal.Reads as exported_seal
use Rattle.aez_c.proofs.aez_open.Reads as exported_open
use Rattle.aez_c.proofs.aez_seal_at.Reads as exported_seal_at
use Rattle.aez_c.proofs.aez_open_at.Reads as exported_open_at
use Rattle.aez_c.proofs.aez_header_read.Reads as exported_header_read
use Rattle.aez_c.proofs.aez_log_header.Reads as exported_log_header
use Rattle.aez_c.proofs.aez_day_write.Reads as exported_day_write
use Rattle.aez_c.proofs.aez_day_records.Reads as exported_day_records
use Rattle.aez_c.proofs.aez_day_open.Reads as exported_day_open
use Rattle.aez_c.proofs.aez_day_list.Reads as exported_day_list
use Rattle.aez_c.proofs.aez_pause.Reads as exported_pause
use Rattle.aez_c.proofs.aez_report.Reads as exported_report
use Rattle.aez_c.proofs.aez_report_figures.Reads as exported_report_figures
use Rattle.aez_c.proofs.aez_day_clear.Reads as exported_day_clear
use Rattle.aez_c.proofs.aez_day_append.Reads as exported_day_append

pub exported_seal_same : (κs : _) (a : _) (z : _) (e : _) → exported_seal.Learnt κs a z e ≡ aez_seal.Learnt κs a z e
exported_seal_same κs a z e = refl

pub exported_open_same : (κs : _) (a : _) (z : _) (e : _) → exported_open.Learnt κs a z e ≡ aez_open.Learnt κs a z e
exported_open_same κs a z e = refl

pub exported_seal_at_same : (κs : _) (a : _) (z : _) (e : _) → exported_seal_at.Learnt κs a z e ≡ aez_seal_at.Learnt κs a z e
exported_seal_at_same κs a z e = refl

pub exported_open_at_same : (κs : _) (a : _) (z : _) (e : _) → exported_open_at.Learnt κs a z e ≡ aez_open_at.Learnt κs a z e
exported_open_at_same κs a z e = refl

pub exported_header_read_same : (κs : _) (a : _) (z : _) (e : _) → exported_header_read.Learnt κs a z e ≡ aez_header_read.Learnt κs a z e
exported_header_read_same κs a z e = refl

pub exported_log_header_same : (κs : _) (a : _) (z : _) (e : _) → exported_log_header.Learnt κs a z e ≡ aez_log_header.Learnt κs a z e
exported_log_header_same κs a z e = refl

pub exported_day_write_same : (κs : _) (a : _) (z : _) (e : _) → exported_day_write.Learnt κs a z e ≡ aez_day_write.Learnt κs a z e
exported_day_write_same κs a z e = refl

pub exported_day_records_same : (κs : _) (a : _) (z : _) (e : _) → exported_day_records.Learnt κs a z e ≡ aez_day_records.Learnt κs a z e
exported_day_records_same κs a z e = refl

pub exported_day_open_same : (κs : _) (a : _) (z : _) (e : _) → exported_day_open.Learnt κs a z e ≡ aez_day_open.Learnt κs a z e
exported_day_open_same κs a z e = refl

pub exported_day_list_same : (κs : _) (a : _) (z : _) (e : _) → exported_day_list.Learnt κs a z e ≡ aez_day_list.Learnt κs a z e
exported_day_list_same κs a z e = refl

pub exported_pause_same : (κs : _) (a : _) (z : _) (e : _) → exported_pause.Learnt κs a z e ≡ aez_pause.Learnt κs a z e
exported_pause_same κs a z e = refl

pub exported_report_same : (κs : _) (a : _) (z : _) (e : _) → exported_report.Learnt κs a z e ≡ aez_report.Learnt κs a z e
exported_report_same κs a z e = refl

pub exported_report_figures_same : (κs : _) (a : _) (z : _) (e : _) → exported_report_figures.Learnt κs a z e ≡ aez_report_figures.Learnt κs a z e
exported_report_figures_same κs a z e = refl

pub exported_day_clear_same : (κs : _) (a : _) (z : _) (e : _) → exported_day_clear.Learnt κs a z e ≡ aez_day_clear.Learnt κs a z e
exported_day_clear_same κs a z e = refl

pub exported_day_append_same : (κs : _) (a : _) (z : _) (e : _) → exported_day_append.Learnt κs a z e ≡ aez_day_append.Learnt κs a z e
exported_day_append_same κs a z e = refl
