-- A run that a refusal stops before the sheet is looked at.
use Rattle.row.specs.declared.Refusal.{Refusal}
use Rattle.runs.specs.declared.Stopped.{Stopped}

abbrev pub stopped_before : Refusal → Stopped
stopped_before refusal = record { refusal = refusal; line = 0; start = 0; length = 0; written = 0 }
