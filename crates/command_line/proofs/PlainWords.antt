-- What words that name a script plainly are read as.
use Rattle.std.proofs.Common.{◌≡◌, ◌==◌, ℕ, Bool, true, false, List, [], ◌∷◌, Option, Some, None, if◌then◌else◌, refl, ap, ap₂, subst, sym, ◌∙◌, codes, unwrap_or, find, arith}
use Rattle.std.proofs.lemmas.Bool.Decides.{nat_tests}
use Rattle.std.specs.Option.{option_map_or}
use Rattle.clap.specs.Words.{Kinds, Shape, Text, built, fault_of, first_of}
use Rattle.clap.specs.Kinds.{or_else}
use Rattle.clap.specs.Simple.{label_of, new_shape}
use Rattle.std.specs.Str.{bytes_eq}
use Rattle.clap.specs.Lexer.{long_of, short_of}
use Rattle.clap.specs.Walk.{Held, Step, Walk, after_step, answers_to, finished, idle, long_or_other, long_word, nothing_held, settled, short_or_plain, trailing, value, walk_from, word_met}
use Rattle.clap.specs.Faults.{bundle_fault, check_fault, flag_word_fault, defaults_fault, settle_fault, step_fault, word_fault}
use Rattle.clap.proofs.OnLiterals.{clap_on_literals}
use Rattle.command_line.specs.CommandLine.{command_of, edend_app, is_server, script_named, standard_input, is_option, NamesPlainly}

alone : (program : Text) → script_named (program ∷ []) ≡ standard_input
unfolding clap_on_literals
alone program = refl

empty : (program : Text) → script_named (program ∷ codes "world" ∷ [] ∷ []) ≡ []
unfolding clap_on_literals
empty program = refl

hyphen : (program : Text) → script_named (program ∷ codes "world" ∷ codes "-" ∷ []) ≡ codes "-"
unfolding clap_on_literals
hyphen program = refl

-- the command `world` as it is built
abbrev world : Shape
world = unwrap_or (find (λ s. answers_to (codes "world") (label_of s)) (built edend_app).subs) (new_shape [])

abbrev start : Walk
start = walk_from nothing_held

-- what is read of a word, by what it was
abbrev read_by : Text → Held × Step → Text
read_by text met = unwrap_or (first_of (codes "SCRIPT") (finished world.rules (after_step world.rules text start met.0 met.1).held)) standard_input

no_long : (byte : ℕ) (rest : Text) → (byte == 45) ≡ false → long_of (byte ∷ rest) ≡ None
no_long byte rest other = rw other refl

no_short : (byte : ℕ) (rest : Text) → (byte == 45) ≡ false → short_of (byte ∷ rest) ≡ None
no_short byte rest other = rw other refl

no_end : (byte : ℕ) (rest : Text) → (byte == 45) ≡ false → bytes_eq (byte ∷ rest) (codes "--") ≡ false
no_end byte rest other = rw other refl

-- a word, by what it looks like
abbrev met_by : Text → Bool → Option (Text × Option Text) → Option Text → Held × Step
met_by text true long short = (nothing_held, trailing 1)
met_by text false (Some long) short = long_word world.rules idle text long.0 long.1 nothing_held
met_by text false None short = short_or_plain world.rules idle text short nothing_held

met_is : (text : Text) → word_met world.rules [] false idle 1 text nothing_held ≡ met_by text (bytes_eq text (codes "--")) (long_of text) (short_of text)
met_is text = go (bytes_eq text (codes "--")) (long_of text)
  where
    go : (ends : Bool) (long : Option (Text × Option Text)) → (if ends then (nothing_held, trailing 1) else long_or_other world.rules idle text long nothing_held) ≡ met_by text ends long (short_of text)
    go true long = refl
    go false (Some long) = refl
    go false None = refl

is_value : (byte : ℕ) (rest : Text) → (byte == 45) ≡ false → word_met world.rules [] false idle 1 (byte ∷ rest) nothing_held ≡ (nothing_held, value)
is_value byte rest other =
    met_is (byte ∷ rest)
    ∙ ap (λ (ends : Bool). met_by (byte ∷ rest) ends (long_of (byte ∷ rest)) (short_of (byte ∷ rest))) (no_end byte rest other)
    ∙ ap₂ (met_by (byte ∷ rest) false) (no_long byte rest other) (no_short byte rest other)

read : (program text : Text) → script_named (program ∷ codes "world" ∷ text ∷ []) ≡ read_by text (word_met world.rules [] false idle 1 text nothing_held)
unfolding clap_on_literals
read program text = refl

read_value : (text : Text) → read_by text (nothing_held, value) ≡ text
unfolding clap_on_literals
read_value text = refl

-- what is wrong with a word that is read so
abbrev faults_by : Text → Held × Step → Kinds → Kinds
faults_by text met wrong =
    let end = (after_step world.rules text start met.0 met.1).held in
    or_else (or_else (or_else (or_else wrong (step_fault world 1 met.0 met.1)) [])
    (or_else (settle_fault world.rules false end) (or_else (defaults_fault (settled world.rules end).rows world.rules) (check_fault world (finished world.rules end) false)))) []

faults : (program text : Text) → fault_of edend_app (program ∷ codes "world" ∷ text ∷ []) ≡ faults_by text (word_met world.rules [] false idle 1 text nothing_held) (word_fault world [] false idle text nothing_held)
unfolding clap_on_literals
faults program text = refl

faults_none : (text : Text) → faults_by text (nothing_held, value) [] ≡ []
unfolding clap_on_literals
faults_none text = refl

abbrev wrong_by : Bool → Option (Text × Option Text) → Option Text → Kinds
wrong_by true long short = []
wrong_by false (Some long) short = flag_word_fault world.rules false (Some long) [] nothing_held
wrong_by false None short = option_map_or (λ flags. bundle_fault world.rules false flags nothing_held) short []

wrong_is : (text : Text) → word_fault world [] false idle text nothing_held ≡ wrong_by (bytes_eq text (codes "--")) (long_of text) (short_of text)
wrong_is text = go (bytes_eq text (codes "--")) (long_of text)
  where
    go : (ends : Bool) (long : Option (Text × Option Text)) → (if ends then [] else flag_word_fault world.rules false long text nothing_held) ≡ wrong_by ends long (short_of text)
    go true long = refl
    go false (Some long) = refl
    go false None = refl

is_right : (byte : ℕ) (rest : Text) → (byte == 45) ≡ false → word_fault world [] false idle (byte ∷ rest) nothing_held ≡ []
is_right byte rest other =
    wrong_is (byte ∷ rest)
    ∙ ap (λ (ends : Bool). wrong_by ends (long_of (byte ∷ rest)) (short_of (byte ∷ rest))) (no_end byte rest other)
    ∙ ap₂ (wrong_by false) (no_long byte rest other) (no_short byte rest other)

alone_right : (program : Text) → fault_of edend_app (program ∷ []) ≡ []
unfolding clap_on_literals
alone_right program = refl

empty_right : (program : Text) → fault_of edend_app (program ∷ codes "world" ∷ [] ∷ []) ≡ []
unfolding clap_on_literals
empty_right program = refl

hyphen_right : (program : Text) → fault_of edend_app (program ∷ codes "world" ∷ codes "-" ∷ []) ≡ []
unfolding clap_on_literals
hyphen_right program = refl

alone_none : (program : Text) → is_server (command_of (program ∷ [])) ≡ false
unfolding clap_on_literals
alone_none program = refl

world_none : (program text : Text) → is_server (command_of (program ∷ codes "world" ∷ text ∷ [])) ≡ false
unfolding clap_on_literals
world_none program text = refl

-- words are read as the script, nothing is wrong with them, and they ask for no server command
abbrev AreRead : List Text → Text → Type 0
AreRead words script = (script_named words ≡ script) × (fault_of edend_app words ≡ []) × (is_server (command_of words) ≡ false)

value_read : (program : Text) (byte : ℕ) (rest : Text) → (byte == 45) ≡ false → AreRead (program ∷ codes "world" ∷ (byte ∷ rest) ∷ []) (byte ∷ rest)
value_read program byte rest other = (
  read program (byte ∷ rest) ∙ ap (read_by (byte ∷ rest)) (is_value byte rest other) ∙ read_value (byte ∷ rest),
  faults program (byte ∷ rest) ∙ ap₂ (faults_by (byte ∷ rest)) (is_value byte rest other) (is_right byte rest other) ∙ faults_none (byte ∷ rest),
  world_none program (byte ∷ rest),
)

word_read : (program script : Text) → is_option script ≡ false → AreRead (program ∷ codes "world" ∷ script ∷ []) script
word_read program [] plain = (empty program, empty_right program, world_none program [])
word_read program (byte ∷ next ∷ rest) plain = value_read program byte (next ∷ rest) plain
word_read program (byte ∷ []) plain = go (byte == 45) refl
  where
    go : (minus : Bool) → (byte == 45) ≡ minus → AreRead (program ∷ codes "world" ∷ (byte ∷ []) ∷ []) (byte ∷ [])
    go false other = value_read program byte [] other
    go true is =
        let byte_is : 45 ≡ byte = grind (arith, nat_tests) in
        subst (λ (b : ℕ). AreRead (program ∷ codes "world" ∷ (b ∷ []) ∷ []) (b ∷ [])) byte_is (hyphen program, hyphen_right program, world_none program (codes "-"))

-- words that name a script plainly are read so
pub plainly : (words : List Text) (script : Text) → NamesPlainly words script → AreRead words script
plainly [] script named = absurd named
plainly (program ∷ []) script named = (alone program ∙ sym named, alone_right program, alone_none program)
plainly (program ∷ command ∷ []) script named = absurd named
plainly (program ∷ command ∷ word ∷ []) script named =
    subst (λ (c : Text). AreRead (program ∷ c ∷ word ∷ []) script) (sym named.0)
    (subst (λ (s : Text). AreRead (program ∷ codes "world" ∷ word ∷ []) s) named.1 (word_read program word named.2))
plainly (program ∷ command ∷ word ∷ x ∷ more) script named = absurd named
