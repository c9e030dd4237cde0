-- The lines of the broker's script: what the kernel asks and forgets, and what the script waits for. (This project's
-- own.)
use Rattle.std.specs.Prelude.{ℕ, List, Option, Some, None, ⊤, codes, option_map, option_and_then, if◌then◌else◌}
use Rattle.eden_base.specs.Text.{cut}
use Rattle.fuse_wire.specs.Request.{is_ask, IsSendable}
use Rattle.fuse_wire.specs.declared.request.Request.{Request}
use Rattle.script_lines.specs.EventLine.{pair_of, request_of}
use Rattle.script_lines.specs.Number.{number_of}
use Rattle.script_lines.specs.Words.{is_word}
use Rattle.script_lines.specs.declared.broker_line.BrokerLine.{BrokerLine}
use Rattle.script_lines.specs.declared.broker_line.BrokerLine.TheVariants.{Ask, Forget, Seat, Idle, Held}

-- the line that asks this request, if the request is one that is answered
abbrev pub asked_by : Request → Option BrokerLine
asked_by request = if is_ask request then Some (Ask request) else None

-- the line `ask REQUEST`, of which these words are the `REQUEST`; it is no forget, since nobody answers one
abbrev pub ask_of : List ℕ → Option BrokerLine
ask_of words = option_and_then asked_by (request_of words)

-- the line `forget N K`, of which these words are the `N K`
abbrev pub forgets_of : List ℕ → Option BrokerLine
forgets_of words =
    option_map (λ (pair : ℕ × ℕ). Forget (record { node = record { 0 = pair.0 }; k = pair.1 })) (pair_of words)

-- the line `seat G`, of which these words are the `G`
abbrev pub seat_of : List ℕ → Option BrokerLine
seat_of words = option_map (λ (generation : ℕ). Seat generation) (number_of words)

-- a line of several words, by its first word and the rest
abbrev pub broker_line_by : List ℕ → List ℕ → Option BrokerLine
broker_line_by word rest =
    if is_word word (codes "ask") then ask_of rest
    else if is_word word (codes "forget") then forgets_of rest
    else if is_word word (codes "seat") then seat_of rest
    else None

-- the line that these bytes write: `ask REQUEST`, `forget N K`, `seat G`, `idle` or `held`
abbrev pub broker_line_of : List ℕ → Option BrokerLine
broker_line_of line =
    if is_word line (codes "idle") then Some Idle
    else if is_word line (codes "held") then Some Held
    else option_and_then (λ (parts : List ℕ × List ℕ). broker_line_by parts.0 parts.1) (cut 32 line)

-- if a line asks, its request can be sent: an `other` must not have the opcode of a request with a form of its own
abbrev pub IsSendableLine : BrokerLine → Type 0
IsSendableLine (Ask request) = IsSendable request
IsSendableLine line = ⊤
