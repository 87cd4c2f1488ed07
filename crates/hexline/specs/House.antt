-- The hub that the program opens, and what it prints for a text.
use Rattle.std.specs.Prelude.{ℕ, List, [], ◌∷◌, ◌++◌}
use Rattle.hexadecimal.specs.Lines.{lines_of}
use Rattle.store.specs.Lists.{zeros}
use Rattle.model.specs.declared.told.Site.{Site}
use Rattle.model.specs.Models.{HubModel}
use Rattle.model.specs.Opening.{new_switch}
use Rattle.hexline.specs.Dispatch.{told, told_text}
use Rattle.hexline.specs.Lines.{after_lines, heard_lines}

-- version 2.01, project 0x1234, firmware 0, design 5
abbrev pub site : Site
site = record { version = 0x0201; project = 0x1234; firmware = 0; design = 5 }

-- actors 1 and 2, all values 0; switch 7 lists both, switch 8 lists actor 2
abbrev pub house : HubModel
house = record { site = site; switches = new_switch 7 (1 ∷ 2 ∷ []) ∷ new_switch 8 (2 ∷ []) ∷ []; store = zeros (1 ∷ 2 ∷ []) }

-- what switch 7 is told, and then switch 8
abbrev pub told_both : HubModel → List ℕ
told_both h = told_text h 7 ++ told_text (told h 7) 8

-- what is printed: what each line is answered with, in order, and at the end what both switches are told
abbrev pub report_on : List ℕ → List ℕ
report_on text = heard_lines house (lines_of text) ++ told_both (after_lines house (lines_of text))
