-- The text of each cause. The texts are this project's own.
use Rattle.std.specs.Prelude.{ℕ, List, codes}
use Rattle.rds_script.specs.declared.cause.Cause.{Cause}
use Rattle.rds_script.specs.declared.cause.Cause.TheVariants.{TooLarge, Lines, Text, Command, Words, Host, SameHost, Number, Payload, Total, Cuts, Empty}

abbrev pub cause_text : Cause → List ℕ
cause_text TooLarge = codes "too large"
cause_text Lines = codes "lines"
cause_text Text = codes "text"
cause_text Command = codes "command"
cause_text Words = codes "words"
cause_text Host = codes "host"
cause_text SameHost = codes "same host"
cause_text Number = codes "number"
cause_text Payload = codes "payload"
cause_text Total = codes "total"
cause_text Cuts = codes "cuts"
cause_text Empty = codes "empty"
