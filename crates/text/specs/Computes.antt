-- Named on an `unfolding` line, this opens what the crate and those below it compute with, for facts that hold by computing.
use Rattle.base.specs.Computes.{base_computes}
use Rattle.plan.specs.Computes.{plan_computes}
use Rattle.buffer.specs.Decimal.{decimal_in, decimal, spaced}
use Rattle.domains.specs.Lines.{listed_codes, domain_line, variable_line, variable_lines}
use Rattle.text.specs.Printed.{status_word, declined_word, report_line, decline_line, printed}

unfoldable pub text_computes : Unit {0}
unfolding decimal_in decimal status_word declined_word spaced report_line listed_codes domain_line variable_line variable_lines decline_line printed base_computes plan_computes
text_computes = tt
