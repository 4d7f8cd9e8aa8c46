-- 01, "The bench program": what a line prints, by its answer.
-- Assumes nothing.
use Rattle.std.specs.Prelude.{List, [], ◌∷◌, ◌++◌, ℕ}
use Rattle.text.specs.Text.{ascii, decimal, hex}
use Rattle.lines.specs.Grammar.{newline, spaced}
use Rattle.answers.specs.declared.Name.{Name}
use Rattle.answers.specs.declared.Name.TheVariants.{Add, Store, Load, Remove, Check, Spoil}
use Rattle.answers.specs.declared.Answer.{Answer}
use Rattle.answers.specs.declared.Answer.TheVariants.{Numbered, Loaded, Accepted, Stamp, Tag, Bad}

abbrev pub name_of : Name → List ℕ
name_of Add = ascii "add"
name_of Store = ascii "store"
name_of Load = ascii "load"
name_of Remove = ascii "remove"
name_of Check = ascii "check"
name_of Spoil = ascii "spoil"

-- the command and its number; the value's first byte after a load that worked; a check's verdict in place of its number, and why where it rejects
abbrev pub words_said : Answer → List (List ℕ)
words_said (Numbered c n) = name_of c ∷ decimal n ∷ []
words_said (Loaded b) = ascii "load" ∷ decimal 0 ∷ hex b ∷ []
words_said Accepted = ascii "check" ∷ ascii "accept" ∷ []
words_said (Stamp a) = ascii "check" ∷ ascii "reject" ∷ ascii "stamp" ∷ decimal a ∷ []
words_said Tag = ascii "check" ∷ ascii "reject" ∷ ascii "tag" ∷ []
words_said Bad = ascii "bad" ∷ []

-- its words, a blank between them, and a newline
unfoldable pub said : Answer → List ℕ
said a = spaced (words_said a) ++ (newline ∷ [])
