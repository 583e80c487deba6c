-- Texts and their canonical texts, document 01's whole example first, then those of requests R-1 and R-4.
use Rattle.std.specs.Prelude.{ℕ, Bool, ◌&&◌, List, [], ◌∷◌}
use Prim.Native.String.{String}
use Rattle.model.specs.Lists.{bytes, same, all}
use Rattle.model.specs.Compiling.{Outcome, accepted, refused, compiled}
use Rattle.model.specs.Canonical.{canonical_text}

-- the canonical text of what a text compiles to, no bytes where it is refused
abbrev pub written_from : List ℕ → Outcome → List ℕ
written_from text (accepted t) = canonical_text text [] t
written_from text (refused number place) = []

abbrev pub canonical : List ℕ → List ℕ
canonical text = written_from text (compiled text)

pub record WrittenExample : Type 0 where
  pub text : String
  pub canonical : String

abbrev pub gives : String → String → WrittenExample
gives text canonical = record { text = text; canonical = canonical }

unfoldable pub written_examples : List WrittenExample
written_examples =
    gives "#override\ns c<Key>a : go(now,) stop()\n<Btn1Up>(2): ok()"
    "Ctrl Shift<KeyPress>a:go(\"now\",\"\") stop()\n<ButtonRelease>(2)Button1:ok()\n"
    -- no directive, no blank line, a newline at the end of every line
    ∷ gives "\n \n<Expose>:" "<Expose>:\n"
    ∷ gives "" ""
    -- `!` wherever every testable bit is asked, then only set bits
    ∷ gives "None<Key>:" "!<KeyPress>:\n"
    ∷ gives "! : Mod1 Ctrl<Key>A:" "!:Ctrl Mod1<KeyPress>A:\n"
    ∷ gives "! c ~s<Key>a:" "!Ctrl<KeyPress>a:\n"
    ∷ gives "~ Shift ~Lock c<Key>a:" "Ctrl ~Shift ~Lock<KeyPress>a:\n"
    -- a key sequence, and an escaped quote
    ∷ gives "\"^a\\\"\":" "Ctrl<KeyPress>a,<KeyPress>quotedbl:\n"
    -- names of types and details
    ∷ gives "<Btn2Down>,<Enter>1,<Motion>7,<Mapping>Pointer:" "<ButtonPress>Button2,<EnterNotify>Grab,<MotionNotify>7,<MappingNotify>Pointer:\n"
    ∷ gives "<BtnMotion>Hint:" "<BtnMotion>Hint:\n"
    ∷ gives "Button1<BtnMotion>:" "Button1<MotionNotify>:\n"
    ∷ gives "<Btn3Motion>:" "Button3<MotionNotify>:\n"
    ∷ gives "<Key>(1)F12,<Key>0x1FFFFFFF:" "<KeyPress>F12,<KeyPress>0x1fffffff:\n"
    -- parameters are quoted, and hold what they held
    ∷ gives "<Key>:f( , )g(a(b,\" x, y\\\")" "<KeyPress>:f(\"\",\"\") g(\"a(b\",\" x, y\\\")\n"
    -- R-1: "names after Button5: Meta, Alt, Hyper, Super, then `@` with hexadecimal keysyms, rising, of one name the set form first"
    ∷ gives "~m @0x100 m ~@b a @a ~Shift Button5<Key>:" "~Shift Button5 Meta ~Meta Alt @0x61 ~@0x62 @0x100<KeyPress>:\n"
    ∷ gives "su h ~ a @10 ~@a @97<Key>:" "~Alt Hyper Super @0xa @0x61 ~@0x61<KeyPress>:\n"
    -- "`None<Meta>` .. is kept, as `!Meta<Key>`, `Any<Meta>` as `Meta<Key>`", and "`$` .. as Meta listed"
    ∷ gives "None<Meta>a,Any<Meta>a:" "!Meta<KeyPress>a,Meta<KeyPress>a:\n"
    ∷ gives "~Meta<Meta>a:" "Meta ~Meta<KeyPress>a:\n"
    ∷ gives "\"$a\":" "Meta<KeyPress>a:\n"
    -- "keeps `!` and its plain names, clear ones too, as written"
    ∷ gives "!~Shift Meta<Key>a:" "!~Shift Meta<KeyPress>a:\n"
    ∷ gives "~c~s~l~Mod1~Mod2~Mod3~Mod4~Mod5~Button1~Button2~Button3~Button4~Button5 m<Key>a:"
    "~Ctrl ~Shift ~Lock ~Mod1 ~Mod2 ~Mod3 ~Mod4 ~Mod5 ~Button1 ~Button2 ~Button3 ~Button4 ~Button5 Meta<KeyPress>a:\n"
    ∷ gives "!:@00<Key>a:" "!:@0x0<KeyPress>a:\n"
    ∷ gives "Meta<BtnMotion>:" "Meta<BtnMotion>:\n"
    -- R-4: "the name where there is one", 01's too; "and hexadecimal otherwise"
    ∷ gives "<Key>0xff0d,<Key>53,<Key>0x20,<Key>0351,<KeyUp>0XFF:" "<KeyPress>Return,<KeyPress>5,<KeyPress>space,<KeyPress>eacute,<KeyRelease>ydiaeresis:\n"
    ∷ gives "<Key>0x7f,<Key>00,<Key>0x1f,<Key>0x9f,<Key>0x100:" "<KeyPress>0x7f,<KeyPress>0x0,<KeyPress>0x1f,<KeyPress>0x9f,<KeyPress>0x100:\n"
    -- "the first in byte order where two share a value"
    ∷ gives "<Key>quoteright,<Key>quoteleft,<Key>Eth,<Key>Thorn,<Key>Oslash,<Key>oslash:" "<KeyPress>apostrophe,<KeyPress>grave,<KeyPress>ETH,<KeyPress>THORN,<KeyPress>Ooblique,<KeyPress>ooblique:\n"
    -- "after `@` it keeps hexadecimal"
    ∷ gives "@eacute ~@Oslash<Key>eacute:" "~@0xd8 @0xe9<KeyPress>eacute:\n"
    -- names of later headers, and others that are not among these
    ∷ gives "<Key>guillemetleft:" ""
    ∷ gives "<Key>Linefeed:" ""
    ∷ []

-- the text comes to its canonical one, and that to itself
abbrev pub comes_to : WrittenExample → Bool
comes_to e = same (canonical (bytes e.text)) (bytes e.canonical) && same (canonical (bytes e.canonical)) (bytes e.canonical)

abbrev pub all_come : Bool
all_come = all comes_to written_examples
