-- Checks of the definitions. Nothing that a reader must believe stands here.
mod Edges
mod DayEdges
mod PauseEdges
mod DayEditEdges
