-- The rows that an answer names fit a byte (SCOPE 6.1, 6.2).
use Rattle.std.specs.Prelude.{◌<◌}
use Rattle.sheet.specs.declared.Answer.{Answer}
use Rattle.sheet.specs.declared.Answer.TheVariants as answer

unfoldable pub RowsFit : Answer → Type 0
RowsFit answer.Accepted = Unit
RowsFit (answer.Refused n) = Unit
RowsFit (answer.Extremes x) = (x.maximum.row < 256) × (x.minimum.row < 256)
RowsFit (answer.Utilisation x) = x.row < 256
