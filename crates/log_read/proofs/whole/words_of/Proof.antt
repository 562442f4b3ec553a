use Rattle.format.specs.Item.{item_words}
use borrow.Author.Tests.{eq-eqb, ne_eqb, lt-ltb, le-ltb, le-leb, lt-leb}
use borrow.Author.Rules.{rules}
use Rattle.log_read.proofs.whole.words_of.Statement.{statement}
use Rattle.log_read.proofs.whole.words_of.Tie as tie

enum_known-item : tie.Need-enum_known-item
enum_known-item c = search rules

enum_told-1 : tie.Need-enum_told-1
enum_told-1 c = search rules

enum_told-in-At : tie.Need-enum_told-in-At
enum_told-in-At c = search rules

enum_known-item-in-Status-1 : tie.Need-enum_known-item-in-Status-1
enum_known-item-in-Status-1 c = search rules

enum_told-in-Untimed : tie.Need-enum_told-in-Untimed
enum_told-in-Untimed c = search rules

enum_told-in-After : tie.Need-enum_told-in-After
enum_told-in-After c = search rules

enum_told-in-Data : tie.Need-enum_told-in-Data
enum_told-in-Data c = search rules

enum_told-in-BusError : tie.Need-enum_told-in-BusError
enum_told-in-BusError c = search rules

enum_known-item-in-Arinc-1 : tie.Need-enum_known-item-in-Arinc-1
enum_known-item-in-Arinc-1 c = search rules

enum_told-in-Untagged-tag : tie.Need-enum_told-in-Untagged-tag
enum_told-in-Untagged-tag c = search rules

enum_told-in-At-tag : tie.Need-enum_told-in-At-tag
enum_told-in-At-tag c = search rules

enum_told-in-Notice : tie.Need-enum_told-in-Notice
enum_told-in-Notice c = search rules

enum_told-in-User : tie.Need-enum_told-in-User
enum_told-in-User c = search rules

enum_told-in-Overflow : tie.Need-enum_told-in-Overflow
enum_told-in-Overflow c = search rules

returns-in-Untagged : tie.Need-returns-in-Untagged
unfolding item_words
returns-in-Untagged c = simp (c.in-Command.is, c.in-Untagged.is)

returns-in-At : tie.Need-returns-in-At
unfolding item_words
returns-in-At c = simp (c.in-Command.is, c.in-At.is)

returns-in-Untimed : tie.Need-returns-in-Untimed
unfolding item_words
returns-in-Untimed c = simp (c.in-Status.is, c.in-Untimed.is)

returns-in-After : tie.Need-returns-in-After
unfolding item_words
returns-in-After c = simp (c.in-Status.is, c.in-After.is)

returns-in-Data : tie.Need-returns-in-Data
unfolding item_words
returns-in-Data c = simp c.in-Data.is

returns-in-BusError : tie.Need-returns-in-BusError
unfolding item_words
returns-in-BusError c = simp c.in-BusError.is

returns-in-Untagged-tag : tie.Need-returns-in-Untagged-tag
unfolding item_words
returns-in-Untagged-tag c = simp (c.in-Arinc.is, c.in-Untagged-tag.is)

returns-in-At-tag : tie.Need-returns-in-At-tag
unfolding item_words
returns-in-At-tag c = simp (c.in-Arinc.is, c.in-At-tag.is)

returns-in-Notice : tie.Need-returns-in-Notice
unfolding item_words
returns-in-Notice c = simp c.in-Notice.is

returns-in-User : tie.Need-returns-in-User
unfolding item_words
returns-in-User c = simp c.in-User.is

returns-in-Overflow : tie.Need-returns-in-Overflow
unfolding item_words
returns-in-Overflow c = simp c.in-Overflow.is

pub words_of_spec : {M : Type 1} → statement M
words_of_spec =
    tie.close
    (tie.spec
    enum_known-item
    enum_told-1
    enum_told-in-At
    enum_known-item-in-Status-1
    enum_told-in-Untimed
    enum_told-in-After
    enum_told-in-Data
    enum_told-in-BusError
    enum_known-item-in-Arinc-1
    enum_told-in-Untagged-tag
    enum_told-in-At-tag
    enum_told-in-Notice
    enum_told-in-User
    enum_told-in-Overflow
    returns-in-Untagged
    returns-in-At
    returns-in-Untimed
    returns-in-After
    returns-in-Data
    returns-in-BusError
    returns-in-Untagged-tag
    returns-in-At-tag
    returns-in-Notice
    returns-in-User
    returns-in-Overflow)
