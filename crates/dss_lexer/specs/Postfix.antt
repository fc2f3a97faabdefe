-- A postfix expression: operands first, then their operator.
use Rattle.std.specs.Prelude.{ℕ, ℤ, pos, ◌+ℤ◌, ◌-ℤ◌, ◌*ℤ◌, ◌==◌, List, [], ◌∷◌, Option, Some, None, Result, Ok, Err, if◌then◌else◌}
use Rattle.std.specs.Int.RustNames.{unsigned_abs}
use Rattle.dss_lexer.specs.declared.expressions.Operator.{Operator}
use Rattle.dss_lexer.specs.declared.expressions.Operator.TheVariants.{Add, Subtract, Multiply, Divide}
use Rattle.dss_lexer.specs.declared.fault.NumberFault.{NumberFault}
use Rattle.dss_lexer.specs.declared.fault.NumberFault.TheVariants.{BadPostfix, DivideByZero}
use Rattle.dss_lexer.specs.Answers.{◌>>=◌}
use Rattle.dss_lexer.specs.Arrays.{words_of}
use Rattle.dss_lexer.specs.Number.{number_of, within_limit}
use Rattle.fd_exact.specs.Rounding.{near_div, near_over}

-- the words + - * / and no other
abbrev pub operator_of : List ℕ → Option Operator
operator_of (c ∷ []) = if c == 43 then Some Add else if c == 45 then Some Subtract else if c == 42 then Some Multiply else if c == 47 then Some Divide else None
operator_of word = None

-- numbers are in units of 10^-9, and a quotient too
abbrev pub quotient : ℤ → ℤ → Result ℤ NumberFault
quotient left right = if unsigned_abs right == 0 then Err DivideByZero else Ok (near_over (left *ℤ pos 1_000_000_000) right)

abbrev pub exact : Operator → ℤ → ℤ → Result ℤ NumberFault
exact Add left right = Ok (left +ℤ right)
exact Subtract left right = Ok (left -ℤ right)
exact Multiply left right = Ok (near_div (left *ℤ right) 1_000_000_000)
exact Divide left right = quotient left right

-- each result is rounded to the nearest unit, and has the limit of a number
abbrev pub operate : Operator → ℤ → ℤ → Result ℤ NumberFault
operate op left right = exact op left right >>= within_limit

-- the last two operands, the later one first, give way to the result
abbrev pub reduce : Operator → List ℤ → Result (List ℤ) NumberFault
reduce op (right ∷ left ∷ operands) = operate op left right >>= λ n. Ok (n ∷ operands)
reduce op operands = Err BadPostfix

-- the operands after one more word, the last first
abbrev pub read_by : Option Operator → List ℤ → List ℕ → Result (List ℤ) NumberFault
read_by None operands word = number_of word >>= λ n. Ok (n ∷ operands)
read_by (Some op) operands word = reduce op operands

abbrev pub read_word : List ℤ → List ℕ → Result (List ℤ) NumberFault
read_word operands word = read_by (operator_of word) operands word

-- one operand is left
abbrev pub sole : List ℤ → Result ℤ NumberFault
sole (n ∷ []) = Ok n
sole operands = Err BadPostfix

abbrev pub value_after : List ℤ → List (List ℕ) → Result ℤ NumberFault
value_after operands [] = sole operands
value_after operands (word ∷ words) = read_word operands word >>= λ more. value_after more words

unfoldable pub postfix_of : List ℕ → Result ℤ NumberFault
postfix_of text = value_after [] (words_of text)
