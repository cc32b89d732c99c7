-- How the words of the command line are spelled.
use Rattle.std.specs.Prelude.{◌≡◌, ℕ, List, ◌⊎◌, codes, take}
use Rattle.options.specs.declared.words.Word.{Word}
use Rattle.options.specs.declared.words.Word.TheVariants.{Rows, Slots, Hex, House, Color, Help, At, Name, Edition, End, File}

-- a word of these bytes asks for this; a file's name does not begin with `-`, but standard input's is `-`
abbrev pub Spells : Word → List ℕ → Type 0
Spells Rows word = word ≡ codes "--rows"
Spells Slots word = word ≡ codes "--slots"
Spells Hex word = word ≡ codes "--hex"
Spells House word = word ≡ codes "--house"
Spells Color word = word ≡ codes "--color"
Spells Help word = (word ≡ codes "--help") ⊎ (word ≡ codes "-h")
Spells At word = word ≡ codes "--at"
Spells Name word = word ≡ codes "--name"
Spells Edition word = word ≡ codes "--edition"
Spells End word = word ≡ codes "--"
Spells File word = take 1 word ≡ codes "-" → word ≡ codes "-"
