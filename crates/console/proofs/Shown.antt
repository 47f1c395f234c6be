-- A number as std's `Display` writes it is a number in decimal.
use Rattle.std.proofs.Common.{◌≡◌, ℕ, ◌^◌, ◌<◌, arith, rules}
use Rattle.std.proofs.lemmas.Fmt.{AppendsLastDigit, decimal_from_appends, length-decimal-le}
use Rattle.std.specs.Fmt.{decimal as Fmt·decimal}
use Rattle.listing.specs.Decimal.{digits, decimal}

last_digits : AppendsLastDigit digits
unfolding digits
last_digits = search rules

pub shown : (n : ℕ) → n < 2 ^ 64 → decimal n ≡ Fmt·decimal n
unfolding decimal
shown n h = decimal_from_appends digits last_digits 20 n h (length-decimal-le 20 n (omega arith) (omega arith) h)
