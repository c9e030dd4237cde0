-- What is under way at the kernel's side: the queues of a FUSE connection (linux/fuse.h), each first in first out.
-- That forgets have a queue of their own, and when they go first, is this project's own.
use Rattle.std.specs.Prelude.{ℕ, ◌+◌, ◌<◌, Bool, true, false, ◌||◌, ◌&&◌, ◌==◌, nat_le, nat_lt, List, [], ◌∷◌, ◌++◌, length, take, drop, map, All, sum_by, count_by, Option, Some, None, if◌then◌else◌, refl}
use Rattle.std.specs.List.{list_any}
use Rattle.std.specs.Option.{option_map, option_map_or}
use Rattle.std.specs.Coded.{Coded, code_by, coded×, coded_list, coded_ℕ}
use Rattle.eden_base.specs.First.{first_where, without_where}
use Rattle.fuse_wire.specs.declared.request.Request.{Request}
use Rattle.fuse_wire.specs.declared.request.Request.TheVariants.{Forget, BatchForget}
use Rattle.fuse_wire.specs.declared.request.Ask.{Ask}
use Rattle.fuse_wire.specs.declared.item.Item.{Item}
use Rattle.fuse_wire.specs.declared.reply.Answer.{Answer}
use Rattle.fuse_wire.specs.declared.reply.Reply.{Reply}
use Rattle.fuse_wire.specs.contracts.request.Ask.{the_row as ask_row}
use Rattle.fuse_wire.specs.contracts.item.Item.{the_row as item_row}
use Rattle.fuse_wire.specs.contracts.reply.Reply.{the_row as reply_row}
use Rattle.fuse_wire.specs.Given.{given_out}
use Rattle.fuse_wire.specs.Request.{form_of}
use Rattle.fuse_wire.specs.Form.{belongs}
use Rattle.fuse_wire.specs.declared.form.Form.{Form}
use Rattle.fuse_wire.specs.contracts.form.Form.{the_row as form_row}
use Rattle.broker_core.specs.declared.broker.IssueFault.{IssueFault}
use Rattle.broker_core.specs.declared.broker.IssueFault.TheVariants.{Full}

-- the asks that no daemon took yet; of each taken ask without a reply, its unique and the form of its answer; the items
-- that no daemon took yet; the replies that the kernel didn't get yet
pub record TrafficState : Type 0 where
  pub untaken : List Ask
  pub taken : List (ℕ × Form)
  pub items : List Item
  pub posted : List Reply

-- the coding of a state as a tuple, for the type that contracts see as a state
abbrev pub traffic_state_code : Coded TrafficState
traffic_state_code =
    code_by (List Ask × (List (ℕ × Form) × (List Item × List Reply)))
    (coded× (coded_list ask_row.coded) (coded× (coded_list (coded× coded_ℕ form_row.coded))
    (coded× (coded_list item_row.coded) (coded_list reply_row.coded))))
    (λ t. (t.untaken, (t.taken, (t.items, t.posted))))
    (λ p. record { untaken = p.0; taken = p.1.0; items = p.1.1.0; posted = p.1.1.1 })
    (λ _. refl)

-- the traffic when nothing is under way
abbrev pub no_traffic : TrafficState
no_traffic = record { untaken = []; taken = []; items = []; posted = [] }

-- the first of a queue, if there is one
abbrev pub front : {X : Type 0} → List X → Option X
front [] = None
front (x ∷ xs) = Some x

-- how many asks are under way, from issue to delivery
abbrev pub asks_under_way : TrafficState → ℕ
asks_under_way traffic = length traffic.untaken + length traffic.taken + length traffic.posted

-- why no further ask is accepted, if there is a cause other than memory
abbrev pub ask_refusal : TrafficState → Option IssueFault
ask_refusal traffic = if nat_le 1024 (asks_under_way traffic) then Some Full else None

-- why no further item is accepted, if there is a cause other than memory
abbrev pub item_refusal : TrafficState → Option IssueFault
item_refusal traffic = if nat_le 4096 (length traffic.items) then Some Full else None

-- this unique is above those of all asks without a reply
pub record IsLater (traffic : TrafficState) (unique : ℕ) : Type 0 where
  pub untaken : All (λ ask. ask.unique < unique) traffic.untaken
  pub taken : All (λ asked. asked.0 < unique) traffic.taken

-- the traffic after an ask was queued
abbrev pub ask_issued : TrafficState → ℕ → Request → TrafficState
ask_issued traffic unique request =
    record traffic { untaken = traffic.untaken ++ record { unique = unique; what = request } ∷ [] }

-- the traffic after an item was queued
abbrev pub item_issued : TrafficState → Item → TrafficState
item_issued traffic item = record traffic { items = traffic.items ++ item ∷ [] }

-- items as one request: one as FORGET, more as BATCH_FORGET, none as no request
abbrev pub forget_of : List Item → Option Request
forget_of [] = None
forget_of (item ∷ []) = Some (Forget item)
forget_of items = Some (BatchForget items)

-- the request of a forget as an ask, with unique 0, since no reply goes to it
abbrev pub without_unique : Request → Ask
without_unique request = record { unique = 0; what = request }

-- items go before asks: no ask waits, or a whole batch of items does
abbrev pub items_go_first : TrafficState → Bool
items_go_first traffic = length traffic.untaken == 0 || nat_le 256 (length traffic.items)

-- what a daemon takes next, if anything waits
abbrev pub next_taken : TrafficState → Option Ask
next_taken traffic =
    if items_go_first traffic then option_map without_unique (forget_of (take 256 traffic.items))
    else front traffic.untaken

-- what is kept of an ask until it has a reply: its unique, and the form of its answer
abbrev pub asked_of : Ask → ℕ × Form
asked_of ask = (ask.unique, form_of ask.what)

-- the traffic after the first ask was taken
abbrev pub ask_taken : TrafficState → TrafficState
ask_taken traffic =
    record traffic { untaken = drop 1 traffic.untaken; taken = traffic.taken ++ map asked_of (take 1 traffic.untaken) }

-- the traffic after a daemon took what goes first
abbrev pub left_by_take : TrafficState → TrafficState
left_by_take traffic =
    if items_go_first traffic then record traffic { items = drop 256 traffic.items }
    else ask_taken traffic

-- a taken ask has this unique
abbrev pub is_of : ℕ → ℕ × Form → Bool
is_of unique asked = unique == asked.0

-- an answer gives out no number, or one other than 0 and the root
abbrev pub may_be_given : Answer → Bool
may_be_given answer = option_map_or (λ number. nat_lt 1 number.0) (given_out answer) true

-- the form of the answer to the taken ask with this unique, if that ask has no reply
abbrev pub form_asked : TrafficState → ℕ → Option Form
form_asked traffic unique = option_map (λ asked. asked.1) (first_where (is_of unique) traffic.taken)

-- a taken ask without a reply has the unique of this reply, and the reply's answer belongs to the ask and may be given
abbrev pub is_asked : TrafficState → Reply → Bool
is_asked traffic reply =
    option_map_or (λ form. belongs form reply.answer && may_be_given reply.answer)
    (form_asked traffic reply.unique) false

-- the traffic after a reply was posted: its ask no longer waits for one
abbrev pub reply_posted : TrafficState → Reply → TrafficState
reply_posted traffic reply =
    record traffic { taken = without_where (is_of reply.unique) traffic.taken; posted = traffic.posted ++ reply ∷ [] }

-- the traffic after the first posted reply reached the kernel
abbrev pub reply_delivered : TrafficState → TrafficState
reply_delivered traffic = record traffic { posted = drop 1 traffic.posted }

-- how often an item takes a number back: its k, or 0 if its number is another
abbrev pub taken_back : ℕ → Item → ℕ
taken_back n item = if item.node.0 == n then item.k else 0

-- how often the waiting items take a number back
abbrev pub forgets_on : TrafficState → ℕ → ℕ
forgets_on traffic n = sum_by (taken_back n) traffic.items

-- a reply gives this number out
abbrev pub gives : ℕ → Reply → Bool
gives n reply = option_map_or (λ number. number.0 == n) (given_out reply.answer) false

-- how many posted replies give a number out
abbrev pub entries_of : TrafficState → ℕ → ℕ
entries_of traffic n = count_by (gives n) traffic.posted

-- an untaken ask has this unique
abbrev pub is_ask_of : ℕ → Ask → Bool
is_ask_of unique ask = unique == ask.unique

-- a reply has this unique
abbrev pub is_reply_of : ℕ → Reply → Bool
is_reply_of unique reply = reply.unique == unique

-- an ask with this unique has no reply, whether a daemon took it or none did
abbrev pub is_unanswered : TrafficState → ℕ → Bool
is_unanswered traffic unique = list_any (is_of unique) traffic.taken || list_any (is_ask_of unique) traffic.untaken

-- an ask with this unique is under way: it has no reply, or its reply did not reach the kernel
abbrev pub is_under_way : TrafficState → ℕ → Bool
is_under_way traffic unique = is_unanswered traffic unique || list_any (is_reply_of unique) traffic.posted
