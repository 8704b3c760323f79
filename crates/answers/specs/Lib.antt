-- What crosses the border to C. To believe: Answers, SetAnswers, VerdictAnswers, FiguresAnswers, ReasonAnswers.
pub mod Answers
pub mod SetAnswers
pub mod VerdictAnswers
pub mod FiguresAnswers
pub mod ReasonAnswers
pub mod Entries
