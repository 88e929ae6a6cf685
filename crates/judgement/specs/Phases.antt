-- Which verbs a protocol has, and which verb is heard in which phase.
use Rattle.std.specs.Prelude.{ℕ, Bool, true, false, ◌||◌, List, [], ◌∷◌, Some, None, Option, ◌==◌}
use Rattle.command.specs.declared.verb.Verb.{Verb}
use Rattle.command.specs.declared.verb.Verb.TheVariants as verb
use Rattle.judgement.specs.declared.phase.Kind.{Kind}
use Rattle.judgement.specs.declared.phase.Kind.TheVariants.{Smtp, Lmtp}
use Rattle.judgement.specs.declared.phase.Phase.{Phase}
use Rattle.judgement.specs.declared.phase.Phase.TheVariants.{Fresh, Greeted, Mail, Rcpt, Data, Chunks, Spoiled, Ended}

-- SMTP has HELO and EHLO, and LMTP has LHLO in their place; the other verbs are those of both.
abbrev pub smtp : Kind → Bool
smtp Smtp = true
smtp Lmtp = false

abbrev pub lmtp : Kind → Bool
lmtp Smtp = false
lmtp Lmtp = true

abbrev pub knows : Kind → Option Verb → Bool
knows kind None = false
knows kind (Some verb.Helo) = smtp kind
knows kind (Some verb.Ehlo) = smtp kind
knows kind (Some verb.Lhlo) = lmtp kind
knows kind (Some verb.Mail) = true
knows kind (Some verb.Rcpt) = true
knows kind (Some verb.Data) = true
knows kind (Some verb.Bdat) = true
knows kind (Some verb.Rset) = true
knows kind (Some verb.Noop) = true
knows kind (Some verb.Vrfy) = true
knows kind (Some verb.Quit) = true

-- The phases that a verb names; most verbs name none.
abbrev pub phases_of : Verb → Option (List Phase)
phases_of verb.Helo = None
phases_of verb.Ehlo = None
phases_of verb.Lhlo = None
phases_of verb.Mail = Some (Greeted ∷ [])
phases_of verb.Rcpt = Some (Mail ∷ Rcpt ∷ [])
phases_of verb.Data = Some (Rcpt ∷ [])
phases_of verb.Bdat = None
phases_of verb.Rset = None
phases_of verb.Noop = None
phases_of verb.Vrfy = None
phases_of verb.Quit = None

-- The phases in their order.
abbrev pub place : Phase → ℕ
place Fresh = 0
place Greeted = 1
place Mail = 2
place Rcpt = 3
place Data = 4
place Chunks = 5
place Spoiled = 6
place Ended = 7

abbrev pub among : Phase → List Phase → Bool
among phase [] = false
among phase (p ∷ ps) = place phase == place p || among phase ps

-- A verb that names phases is heard in these alone, any other in all.
abbrev pub allowed : Option (List Phase) → Phase → Bool
allowed None phase = true
allowed (Some ps) phase = among phase ps

abbrev pub heard_in : Phase → Option Verb → Bool
heard_in phase None = true
heard_in phase (Some v) = allowed (phases_of v) phase
