-- From what clap says of the words to how they are read.
use Rattle.std.proofs.Common.{◌≡◌, ◌≢◌, ◌⊎◌, ◌∙◌, inl, inr, Bool, true, false, cond, ◌==◌, List, [], ◌∷◌, length, Some, None, Option, option_map, Result, Ok, Err, IfOk, IfErr, refl, sym, ap, ap₂, subst}
use Rattle.std.specs.Option.{ok_or}
use Rattle.command_line.proofs.Common.{⊤, IsAmong, Kinds, Row, Text, ErrorKind, Order, order_of, Asked, asked_of, Reading, AsksHelp, IsHelpWord, NamesOrder, Allows, AreWrong, GivesHelp, GivesOrder, GivesWrong, GivesFault, command}
use Rattle.clap.specs.declared.error.kind.ErrorKind.TheVariants as kind
use Rattle.command_line.specs.ClapLine.{entered_subcommand, faults, top_rows}
use Rattle.command_line.specs.CommandLine.{GivesLine, MayHelp, MayRefuse, MayTellVersion, bare_order, either, help, help_or_wrong, line_in, line_with, read_by, reading, refusal, refusals, version, words_fault, wrong}
use Rattle.command_line.specs.Options.{OptionTexts, are_wrong, joined, texts_of}
use Rattle.command_line.specs.declared.asked.CommandLine.{CommandLine}
use Rattle.command_line.specs.declared.asked.LineFault.{LineFault}
use Rattle.command_line.specs.declared.asked.LineFault.TheVariants as line
use Rattle.command_line.specs.declared.asked.Word.{Word}
use Rattle.command_line.specs.declared.asked.WordsFault.{WordsFault}
use Rattle.command_line.specs.declared.asked.WordsFault.TheVariants as fault
use Rattle.command_line.specs.declared.names.CommandName.{CommandName}

-- ---- words that clap takes

module _ (name : CommandName) (a b A B : OptionTexts) (first : a ≡ A) (second : b ≡ B) where
  pub line_given : (asked : Option Asked) (word : Asked) (l : CommandLine) → asked ≡ Some word → are_wrong name a b ≡ false
      → asked_of l.word ≡ word → texts_of l.options ≡ joined a b → GivesLine (line_with name asked A B) l
  line_given asked word l is right same has =
      subst (λ (x : Option Asked). GivesLine (line_with name x A B) l) (sym is)
      (subst (λ (x : OptionTexts). GivesLine (line_with name (Some word) x B) l) first
      (subst (λ (y : OptionTexts). GivesLine (line_with name (Some word) a y) l) second (by (are_wrong name a b) right)))
    where
      by : (t : Bool) → t ≡ false → GivesLine (cond t wrong (command word (joined a b))) l
      by false e = (same, has)
      by true e = cc

  pub line_refused : (asked : Option Asked) → are_wrong name a b ≡ true → MayRefuse (line_with name asked A B)
  line_refused None bad = tt
  line_refused (Some word) bad =
      subst (λ (x : OptionTexts). MayRefuse (line_with name (Some word) x B)) first
      (subst (λ (y : OptionTexts). MayRefuse (line_with name (Some word) a y)) second (by (are_wrong name a b) bad))
    where
      by : (t : Bool) → t ≡ true → MayRefuse (cond t wrong (command word (joined a b)))
      by true e = tt
      by false e = cc

pub taken_reading : (words : List Text) → faults words ≡ [] → reading words ≡ line_in (top_rows words) (entered_subcommand words)
unfolding reading
taken_reading words taken = ap (λ (ks : Kinds). read_by ks (length words == 1) (top_rows words) (entered_subcommand words)) taken

-- ---- words that clap refuses

any_fault : (f : LineFault) → GivesFault f help_or_wrong
any_fault (line.Help text) = tt
any_fault line.Version = tt
any_fault line.Wrong = tt
any_fault (line.Options why) = tt
any_fault line.NoMemory = tt

either_first : (r s : Reading) (f : LineFault) → GivesFault f r → GivesFault f (either r s)
either_first (command asked options) s f gives = any_fault f
either_first help s f gives = any_fault f
either_first version s f gives = any_fault f
either_first help_or_wrong s f gives = any_fault f
either_first wrong (command asked options) f gives = any_fault f
either_first wrong help f gives = any_fault f
either_first wrong version f gives = any_fault f
either_first wrong help_or_wrong f gives = any_fault f
either_first wrong wrong f gives = gives

either_second : (r s : Reading) (f : LineFault) → GivesFault f s → GivesFault f (either r s)
either_second (command asked options) s f gives = any_fault f
either_second help s f gives = any_fault f
either_second version s f gives = any_fault f
either_second help_or_wrong s f gives = any_fault f
either_second wrong (command asked options) f gives = any_fault f
either_second wrong help f gives = any_fault f
either_second wrong version f gives = any_fault f
either_second wrong help_or_wrong f gives = any_fault f
either_second wrong wrong f gives = gives

module _ (alone : Bool) (k : ErrorKind) (f : LineFault) (gives : GivesFault f (refusal alone k)) where
  among_given : (x : ErrorKind) (ks : Kinds) → (k ≡ x) ⊎ IsAmong k ks → GivesFault f (refusals alone x ks)
  among_given x [] (inl is) = subst (λ (j : ErrorKind). GivesFault f (refusal alone j)) is gives
  among_given x [] (inr none) = absurd none
  among_given x (l ∷ ks) (inl is) =
      either_first (refusal alone x) (refusals alone l ks) f (subst (λ (j : ErrorKind). GivesFault f (refusal alone j)) is gives)
  among_given x (l ∷ ks) (inr more) = either_second (refusal alone x) (refusals alone l ks) f (among_given l ks more)

  read_given : (ks : Kinds) (top : List Row) (entered : Option (Text × List Row)) → IsAmong k ks → GivesFault f (read_by ks alone top entered)
  read_given [] top entered among = absurd among
  read_given (x ∷ ks) top entered among = among_given x ks among

pub refused_reading : (words : List Text) (k : ErrorKind) (f : LineFault) → (k ≡ kind.OutOfMemory → f ≡ line.NoMemory)
    → GivesFault f (refusal (length words == 1) k) → (k ≡ kind.OutOfMemory) ⊎ IsAmong k (faults words) → GivesFault f (reading words)
unfolding reading
refused_reading words k f memory gives (inl is) = subst (λ (g : LineFault). GivesFault g (reading words)) (sym (memory is)) tt
refused_reading words k f memory gives (inr among) = read_given (length words == 1) k f gives (faults words) (top_rows words) (entered_subcommand words) among

-- ---- the clauses of `read_words`

-- the answer is what the reading is for `run_program`
abbrev pub IsOf : Reading → Result Word WordsFault → Type 0
IsOf r (Ok word) = bare_order r ≡ Some (order_of word)
IsOf r (Err (fault.Help text)) = MayHelp r
IsOf r (Err fault.Wrong) = (bare_order r ≡ None) × (r ≢ help)
IsOf r (Err fault.NoMemory) = ⊤

pub of_line : (r : Reading) (l : CommandLine) (found : Option Word) → GivesLine r l
    → option_map order_of found ≡ bare_order (command (asked_of l.word) (texts_of l.options)) → IsOf r (ok_or found fault.Wrong)
of_line (command asked options) l (Some word) (is, same) bare = sym (bare ∙ ap₂ (λ a o. bare_order (command a o)) is same)
of_line (command asked options) l None (is, same) bare = (sym (bare ∙ ap₂ (λ a o. bare_order (command a o)) is same), λ e. cc)
of_line help l found gives bare = absurd gives
of_line version l found gives bare = absurd gives
of_line wrong l found gives bare = absurd gives
of_line help_or_wrong l found gives bare = absurd gives

refused_of : (r : Reading) → MayRefuse r → (bare_order r ≡ None) × (r ≢ help)
refused_of wrong may = (refl, λ e. cc)
refused_of help_or_wrong may = (refl, λ e. cc)
refused_of (command asked options) may = absurd may
refused_of help may = absurd may
refused_of version may = absurd may

version_of : (r : Reading) → MayTellVersion r → (bare_order r ≡ None) × (r ≢ help)
version_of version may = (refl, λ e. cc)
version_of help_or_wrong may = (refl, λ e. cc)
version_of (command asked options) may = absurd may
version_of help may = absurd may
version_of wrong may = absurd may

pub of_fault : (r : Reading) (f : LineFault) → GivesFault f r → IsOf r (Err (words_fault f))
of_fault r (line.Help text) gives = gives
of_fault r line.Version gives = version_of r gives
of_fault r line.Wrong gives = refused_of r gives
of_fault r (line.Options why) gives = refused_of r gives
of_fault r line.NoMemory gives = tt

helps : (words : List Text) (r : Reading) → reading words ≡ r → MayHelp r → AsksHelp words ⊎ IsHelpWord words
helps words help is may = inl is
helps words help_or_wrong is may = inr is
helps words (command asked options) is may = absurd may
helps words version is may = absurd may
helps words wrong is may = absurd may

no_help_order : (r : Reading) (o : Order) → MayHelp r → bare_order r ≡ Some o → ⊥
no_help_order help o may is = cc
no_help_order help_or_wrong o may is = cc
no_help_order (command asked options) o may is = absurd may
no_help_order version o may is = absurd may
no_help_order wrong o may is = absurd may

wrong_or_help : (words : List Text) (r : Reading) → reading words ≡ r → bare_order r ≡ None → r ≢ help → AreWrong words ⊎ IsHelpWord words
wrong_or_help words help_or_wrong is none other = inr is
wrong_or_help words help is none other = absurd (other refl)
wrong_or_help words (command asked options) is none other = inl (record {
  unnamed = λ o names. let no = sym none ∙ (ap bare_order (sym is) ∙ names) in cc;
  unasked = λ asks. let no = sym is ∙ asks in cc;
  unhelped = λ asks. let no = sym is ∙ asks in cc;
})
wrong_or_help words version is none other = inl (record {
  unnamed = λ o names. let no = sym none ∙ (ap bare_order (sym is) ∙ names) in cc;
  unasked = λ asks. let no = sym is ∙ asks in cc;
  unhelped = λ asks. let no = sym is ∙ asks in cc;
})
wrong_or_help words wrong is none other = inl (record {
  unnamed = λ o names. let no = sym none ∙ (ap bare_order (sym is) ∙ names) in cc;
  unasked = λ asks. let no = sym is ∙ asks in cc;
  unhelped = λ asks. let no = sym is ∙ asks in cc;
})

pub clause_ok : (words : List Text) (r : Result Word WordsFault) → IsOf (reading words) r → IfOk r (λ word. NamesOrder words (order_of word))
clause_ok words (Ok word) is = is
clause_ok words (Err f) is = tt

pub clause_fault : (words : List Text) (r : Result Word WordsFault) → IsOf (reading words) r → IfErr r (Allows words)
clause_fault words (Ok word) is = tt
clause_fault words (Err (fault.Help text)) is = helps words (reading words) refl is
clause_fault words (Err fault.Wrong) is = wrong_or_help words (reading words) refl is.0 is.1
clause_fault words (Err fault.NoMemory) is = tt

pub clause_named : (words : List Text) (r : Result Word WordsFault) → IsOf (reading words) r → (o : Order) → NamesOrder words o → GivesOrder o r
clause_named words (Ok word) is o names = let same = sym is ∙ names in cc
clause_named words (Err (fault.Help text)) is o names = no_help_order (reading words) o is names
clause_named words (Err fault.Wrong) is o names = let no = sym is.0 ∙ names in cc
clause_named words (Err fault.NoMemory) is o names = tt

pub clause_help : (words : List Text) (r : Result Word WordsFault) → IsOf (reading words) r → AsksHelp words → GivesHelp r
clause_help words (Ok word) is asks = let no = sym is ∙ ap bare_order asks in cc
clause_help words (Err (fault.Help text)) is asks = tt
clause_help words (Err fault.Wrong) is asks = is.1 asks
clause_help words (Err fault.NoMemory) is asks = tt

pub clause_wrong : (words : List Text) (r : Result Word WordsFault) → IsOf (reading words) r → AreWrong words → GivesWrong r
clause_wrong words (Ok word) is bad = bad.unnamed (order_of word) is
clause_wrong words (Err (fault.Help text)) is bad =
    elim (helps words (reading words) refl is) [ inl asks ↦ bad.unasked asks | inr word ↦ bad.unhelped word ]
clause_wrong words (Err fault.Wrong) is bad = tt
clause_wrong words (Err fault.NoMemory) is bad = tt

-- words that the program refuses are wrong for `run_program` too
pub refused_wrong : (words : List Text) → reading words ≡ wrong → AreWrong words
refused_wrong words is = record {
  unnamed = λ o names. let no = ap bare_order (sym is) ∙ names in cc;
  unasked = λ asks. let no = sym is ∙ asks in cc;
  unhelped = λ asks. let no = sym is ∙ asks in cc;
}

-- ---- every list of words

pub comes_to_one : (words : List Text) → ((o : Order) × NamesOrder words o) ⊎ (AsksHelp words ⊎ (IsHelpWord words ⊎ AreWrong words))
comes_to_one words = by (bare_order (reading words)) refl
  where
    unnamed : (r : Reading) → reading words ≡ r → bare_order r ≡ None → AsksHelp words ⊎ (IsHelpWord words ⊎ AreWrong words)
    unnamed help is none = inl is
    unnamed help_or_wrong is none = inr (inl is)
    unnamed (command asked options) is none = inr (elim (wrong_or_help words (command asked options) is none (λ e. cc)) [ inl are ↦ inr are | inr asks ↦ inl asks ])
    unnamed version is none = inr (elim (wrong_or_help words version is none (λ e. cc)) [ inl are ↦ inr are | inr asks ↦ inl asks ])
    unnamed wrong is none = inr (elim (wrong_or_help words wrong is none (λ e. cc)) [ inl are ↦ inr are | inr asks ↦ inl asks ])

    by : (found : Option Order) → bare_order (reading words) ≡ found → ((o : Order) × NamesOrder words o) ⊎ (AsksHelp words ⊎ (IsHelpWord words ⊎ AreWrong words))
    by (Some o) is = inl (o, is)
    by None is = inr (unnamed (reading words) refl is)

pub named_once : (words : List Text) (o p : Order) → NamesOrder words o → NamesOrder words p → o ≡ p
named_once words o p a b = let same = sym a ∙ b in cc

pub named_not_asked : (words : List Text) (o : Order) → NamesOrder words o → AsksHelp words → ⊥
named_not_asked words o a b = let no = sym a ∙ ap bare_order b in cc

pub named_not_help : (words : List Text) (o : Order) → NamesOrder words o → IsHelpWord words → ⊥
named_not_help words o a b = let no = sym a ∙ ap bare_order b in cc

pub asked_not_help : (words : List Text) → AsksHelp words → IsHelpWord words → ⊥
asked_not_help words a b = let no = sym a ∙ b in cc

-- words of which clap says these kinds of error
pub read_by_kinds : (words : List Text) (k : ErrorKind) (ks : Kinds) → faults words ≡ k ∷ ks → reading words ≡ refusals (length words == 1) k ks
unfolding reading
read_by_kinds words k ks is = ap (λ (all : Kinds). read_by all (length words == 1) (top_rows words) (entered_subcommand words)) is
