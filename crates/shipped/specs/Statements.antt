-- What is shown of the rows shipped (rules T30 to T37).
-- Assumes nothing.
use Rattle.encode.specs.Theorems.{Encoded}
use Rattle.shipped.specs.Rows.{shipped}

-- their file passes the check, and decodes to them
abbrev pub Ships : Type 0
Ships = Encoded shipped
