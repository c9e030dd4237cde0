-- The lines of a text, read one after another.
use Rattle.std.proofs.Common.{◌≡◌, ℕ, ◌+◌, List, [], ◌∷◌, ◌++◌, map, length, Option, Some, None, refl, sym, ap, ◌∙◌, subst, append_assoc, true, arith}
use Rattle.std.specs.Prelude.{◌==◌, IfSome, is_none}
use Rattle.std.specs.List.{position_from}
use Rattle.std.proofs.lemmas.Bool.Decides.{nat_tests}
use Rattle.std.proofs.lemmas.List.{append-nil}
use Rattle.script_lines.specs.BrokerLine.{broker_line_of, IsSendableLine}
use Rattle.script_lines.specs.Lines.{lines_of}
use Rattle.script_lines.specs.declared.broker_line.BrokerLine.{BrokerLine}
use Rattle.script_lines.proofs.SendableLaws.{sendable-line}
use Rattle.broker_script.specs.Reading.{Says}

-- what a text says is what its first line says, and then what the others say
pub says-first : (text line after : List ℕ) (one : BrokerLine) (more : List BrokerLine) → lines_of text ≡ line ∷ lines_of after → broker_line_of line ≡ Some one → Says after more → Says text (one ∷ more)
says-first text line after one more lines is says =
    ap (λ (o : Option BrokerLine). o ∷ map Some more) (sym is) ∙ ap (λ (os : List (Option BrokerLine)). broker_line_of line ∷ os) says ∙ ap (map broker_line_of) (sym lines)

-- one line more of a text was read
pub says-one : (text : List ℕ) (done : List BrokerLine) (one : BrokerLine) (more : List BrokerLine) → Says text (done ++ one ∷ more) → Says text ((done ++ one ∷ []) ++ more)
says-one text done one more says = subst (λ (said : List BrokerLine). Says text said) (sym (append_assoc done (one ∷ []) more)) says

-- the first bad line comes after a line that says something
pub bad-behind : (n : ℕ) (text line after : List ℕ) (one : BrokerLine) → lines_of text ≡ line ∷ lines_of after → broker_line_of line ≡ Some one →
    position_from is_none n (map broker_line_of (lines_of text)) ≡ position_from is_none (n + 1) (map broker_line_of (lines_of after))
bad-behind n text line after one lines is =
    ap (λ (ls : List (List ℕ)). position_from is_none n (map broker_line_of ls)) lines ∙
    ap (λ (o : Option BrokerLine). position_from is_none n (o ∷ map broker_line_of (lines_of after))) is

-- the first line of the text is the first bad line
pub bad-first : (n : ℕ) (text line after : List ℕ) → lines_of text ≡ line ∷ lines_of after → broker_line_of line ≡ None → position_from is_none n (map broker_line_of (lines_of text)) ≡ Some n
bad-first n text line after lines is =
    ap (λ (ls : List (List ℕ)). position_from is_none n (map broker_line_of ls)) lines ∙
    ap (λ (o : Option BrokerLine). position_from is_none n (o ∷ map broker_line_of (lines_of after))) is

-- a line that was read can be sent, if it asks
pub sendable-one : (line : List ℕ) (one : BrokerLine) → broker_line_of line ≡ Some one → IsSendableLine one
sendable-one line one is = subst (λ (o : Option BrokerLine). IfSome o IsSendableLine) is (sendable-line line)

-- a text of no bytes says nothing
pub says-none : (text : List ℕ) → (length text == 0) ≡ true → Says text []
says-none [] empty = refl
says-none (byte ∷ text) empty = absurd (let none : length (byte ∷ text) ≡ 0 = grind (arith, nat_tests) in omega (arith, none))

-- if no line is left, the whole text was read
pub says-done : (text : List ℕ) (done : List BrokerLine) → Says text (done ++ []) → Says text done
says-done text done says = subst (λ (said : List BrokerLine). Says text said) (append-nil done) says
