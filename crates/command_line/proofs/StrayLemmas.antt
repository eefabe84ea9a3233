-- What clap makes of a word that is no name, or is one too many, whatever follows it.
use Rattle.std.proofs.Common.{◌≡◌, ◌≢◌, ◌∙◌, ℕ, Bool, true, false, ◌==◌, ◌++◌, List, [], ◌∷◌, Some, None, refl, sym, ap, ne_eqb, codes, append-nil, append_assoc}
use Rattle.std.specs.List.{fold}
use Rattle.clap.specs.Kinds.{Kinds, or_else}
use Rattle.clap.specs.Lexer.{long_of, short_of}
use Rattle.clap.specs.Simple.{Shape, built, built_leaf, inherited, marked_built, names_of, on_top, with_leaf_noted}
use Rattle.clap.specs.Walk.{Names, Rule, Text, Walk, idle, nothing_held, walked}
use Rattle.clap.specs.Faults.{level_fault, walk_fault}
use Rattle.clap.specs.declared.error.kind.ErrorKind.TheVariants as kind
use Rattle.clap.proofs.OnLiterals.{clap_on_literals}
use Rattle.command_line.specs.ClapLine.{command_app, faults, program}
use Rattle.command_line.specs.Names.{name_text}
use Rattle.command_line.specs.declared.names.CommandName.{CommandName}
use Rattle.command_line.specs.declared.names.CommandName.TheVariants.{One, Check, Run, Threads, Capture, Serve, Trace, History, Resume, Restore, Snapshot}
use Rattle.std.proofs.lemmas.Slice.Eq.{bytes_eq-Decides}
use Rattle.std.specs.Prelude.{bytes_eq}

abbrev at_subcommand : Text → List Text → Walk
at_subcommand n words = record { held = nothing_held; waiting = idle; position = 1; is_trailing = false; stopped = Some (n, words) }

-- behind a subcommand's name each word is the subcommand's
words_collected : (c : List Rule) (names : Names) (n : Text) (before rest : List Text)
    → fold (walked c names) (at_subcommand n before) rest ≡ at_subcommand n (before ++ rest)
unfolding walked
words_collected c names n before [] = ap (at_subcommand n) (sym (append-nil before))
words_collected c names n before (word ∷ rest) =
    words_collected c names n (before ++ word ∷ []) rest ∙ ap (at_subcommand n) (append_assoc before (word ∷ []) rest)

words_pass : (s : Shape) (names : Names) (n : Text) (before rest : List Text) → walk_fault s names (at_subcommand n before) rest ≡ []
unfolding walked walk_fault
words_pass s names n before [] = refl
words_pass s names n before (word ∷ rest) = words_pass s names n (before ++ word ∷ []) rest

-- the subcommands, as clap builds them
abbrev sub_shape : CommandName → Shape
sub_shape n = built_leaf (inherited (on_top with_leaf_noted (on_top marked_built program)).top (command_app n).top)

abbrev sub_fault : Shape → List Text → Kinds
sub_fault s rest = level_fault s [] nothing_held rest false []

or_nothing : (ks : Kinds) → or_else ks [] ≡ ks
or_nothing [] = refl
or_nothing (k ∷ ks) = refl

abbrev top_rules : List Rule
top_rules = (built program).top.rules

abbrev top_names : Names
top_names = names_of (built program)

-- behind its name a command answers
below : (n : CommandName) (rest : List Text) → faults (name_text n ∷ rest) ≡ sub_fault (sub_shape n) rest
unfolding faults clap_on_literals
below One rest = rw (words_collected top_rules top_names (name_text One) [] rest, words_pass (built program).top top_names (name_text One) [] rest)
    (or_nothing (sub_fault (sub_shape One) rest))
below Check rest = rw (words_collected top_rules top_names (name_text Check) [] rest, words_pass (built program).top top_names (name_text Check) [] rest)
    (or_nothing (sub_fault (sub_shape Check) rest))
below Run rest = rw (words_collected top_rules top_names (name_text Run) [] rest, words_pass (built program).top top_names (name_text Run) [] rest)
    (or_nothing (sub_fault (sub_shape Run) rest))
below Threads rest = rw (words_collected top_rules top_names (name_text Threads) [] rest, words_pass (built program).top top_names (name_text Threads) [] rest)
    (or_nothing (sub_fault (sub_shape Threads) rest))
below Capture rest = rw (words_collected top_rules top_names (name_text Capture) [] rest, words_pass (built program).top top_names (name_text Capture) [] rest)
    (or_nothing (sub_fault (sub_shape Capture) rest))
below Serve rest = rw (words_collected top_rules top_names (name_text Serve) [] rest, words_pass (built program).top top_names (name_text Serve) [] rest)
    (or_nothing (sub_fault (sub_shape Serve) rest))
below Trace rest = rw (words_collected top_rules top_names (name_text Trace) [] rest, words_pass (built program).top top_names (name_text Trace) [] rest)
    (or_nothing (sub_fault (sub_shape Trace) rest))
below History rest = rw (words_collected top_rules top_names (name_text History) [] rest, words_pass (built program).top top_names (name_text History) [] rest)
    (or_nothing (sub_fault (sub_shape History) rest))
below Resume rest = rw (words_collected top_rules top_names (name_text Resume) [] rest, words_pass (built program).top top_names (name_text Resume) [] rest)
    (or_nothing (sub_fault (sub_shape Resume) rest))
below Restore rest = rw (words_collected top_rules top_names (name_text Restore) [] rest, words_pass (built program).top top_names (name_text Restore) [] rest)
    (or_nothing (sub_fault (sub_shape Restore) rest))
below Snapshot rest = rw (words_collected top_rules top_names (name_text Snapshot) [] rest, words_pass (built program).top top_names (name_text Snapshot) [] rest)
    (or_nothing (sub_fault (sub_shape Snapshot) rest))

-- a word that no positional takes
stray : (n : CommandName) (w : Text) (rest : List Text) → n ≢ History → bytes_eq w (codes "--") ≡ false → long_of w ≡ None → short_of w ≡ None
    → sub_fault (sub_shape n) (w ∷ rest) ≡ kind.UnknownArgument ∷ []
unfolding clap_on_literals
stray One w rest other no_end long short = rw (no_end, long, short) refl
stray Check w rest other no_end long short = rw (no_end, long, short) refl
stray Run w rest other no_end long short = rw (no_end, long, short) refl
stray Threads w rest other no_end long short = rw (no_end, long, short) refl
stray Capture w rest other no_end long short = rw (no_end, long, short) refl
stray Serve w rest other no_end long short = rw (no_end, long, short) refl
stray Trace w rest other no_end long short = rw (no_end, long, short) refl
stray History w rest other no_end long short = absurd (other refl)
stray Resume w rest other no_end long short = rw (no_end, long, short) refl
stray Restore w rest other no_end long short = rw (no_end, long, short) refl
stray Snapshot w rest other no_end long short = rw (no_end, long, short) refl

-- ---- a word without a hyphen before it

pub no_hyphen : (w : Text) → ((rest : Text) → w ≢ 45 ∷ rest) → (bytes_eq w (codes "--") ≡ false) × (long_of w ≡ None) × (short_of w ≡ None)
no_hyphen [] other = (refl, refl, refl)
no_hyphen (b ∷ rest) other =
    let differs : (b == 45) ≡ false = ne_eqb _ _ (λ e. other rest (ap (λ (x : ℕ). x ∷ rest) e)) in
    (rw differs refl, rw differs refl, rw differs refl)

-- one word too many
pub second_word : (n : CommandName) (w : Text) (rest : List Text) → n ≢ History → ((t : Text) → w ≢ 45 ∷ t)
    → faults (name_text n ∷ w ∷ rest) ≡ kind.UnknownArgument ∷ []
second_word n w rest other plain =
    let word = no_hyphen w plain in
    below n (w ∷ rest) ∙ stray n w rest other word.0 word.1 word.2

-- a first word that is no name
differs : (n w : Text) → w ≢ n → bytes_eq n w ≡ false
differs n w other = go (bytes_eq n w) refl
  where
    go : (t : Bool) → bytes_eq n w ≡ t → bytes_eq n w ≡ false
    go false is = is
    go true is = absurd (other (sym ((bytes_eq-Decides n w).0 is)))

top_stray : (w : Text) (rest : List Text) → ((n : CommandName) → bytes_eq (name_text n) w ≡ false) → bytes_eq (codes "help") w ≡ false
    → bytes_eq w (codes "--") ≡ false → long_of w ≡ None → short_of w ≡ None
    → faults (w ∷ rest) ≡ kind.UnknownArgument ∷ kind.InvalidSubcommand ∷ []
unfolding faults clap_on_literals
top_stray w rest strange no_help no_end long short =
    rw (
      strange One,
      strange Check,
      strange Run,
      strange Threads,
      strange Capture,
      strange Serve,
      strange Trace,
      strange History,
      strange Resume,
      strange Restore,
      strange Snapshot,
      no_help,
      no_end,
      long,
      short,
    ) refl

pub first_word : (w : Text) (rest : List Text) → ((n : CommandName) → w ≢ name_text n) → w ≢ codes "help" → ((t : Text) → w ≢ 45 ∷ t)
    → faults (w ∷ rest) ≡ kind.UnknownArgument ∷ kind.InvalidSubcommand ∷ []
first_word w rest strange no_help plain =
    let word = no_hyphen w plain in
    top_stray w rest (λ n. differs (name_text n) w (strange n)) (differs (codes "help") w no_help) word.0 word.1 word.2
