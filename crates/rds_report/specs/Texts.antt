-- Private: it serves the contracts of the functions that print in several texts. Source: this project's own.
use Rattle.std.specs.Prelude.{ℕ, List, ◌++◌, string_bytes}
use Rattle.std.specs.List.{flat_map}
use Rattle.rds_report.specs.declared.texts.Texts.{Texts}

-- the bytes of texts one behind another
abbrev pub text_bytes : Texts → List ℕ
text_bytes t = flat_map string_bytes t.done.items ++ string_bytes t.last
