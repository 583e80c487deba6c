-- `writing::numbers::put_digits` meets its contract. The fuel falls with each call of itself.
use Rattle.writing.proofs.numbers.+put_digits.Given as goal

abbrev pub decreases-put_digits : goal.decreases-put_digits
decreases-put_digits l = l.fuel
